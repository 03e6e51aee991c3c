use Rattle.clean_worlds.proofs.fault_laws.unhindered_worlds_end_well.Goals as goal

pub returns : goal.returns
returns c = λ world events e free. let well = e.well free in (well, e.clean well)
