use Rattle.dex_line.proofs.Occurrences.{one_item, item_before_cut, item_of}
use Rattle.dex_line.proofs.laws.blocks_stand_alone.Goals as goal

pub returns : goal.returns
returns c = record {
  whole = λ last text items front back are (is, same). one_item last text items front back is are same;
  cut = λ last text items short front back are cut (is, same). item_before_cut last text items short front back is are cut same;
  item = item_of;
}
