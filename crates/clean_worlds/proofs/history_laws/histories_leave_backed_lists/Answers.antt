use Rattle.clean_worlds.proofs.BackedLists.{backed_behind, leaves_backed}
use Rattle.clean_worlds.proofs.history_laws.histories_leave_backed_lists.Goals as goal

pub returns : goal.returns
returns c = record {
  steps = λ events supplier receiver steps last one other supplier_entries receiver_entries obeys free none nothing calls its those holds also apart.
      backed_behind c.an_image_holds_one_list.ensures events supplier receiver steps last one other obeys free none nothing calls its those supplier_entries receiver_entries holds also apart;
  world = λ world events more played free script. leaves_backed c.an_image_holds_one_list.ensures world events more played free script;
}
