use Rattle.legal.proofs.SharedLemmas.{legal-live}
use Rattle.machine.proofs.MappingLemmas.{mappers_some}
use Rattle.legal.proofs.MappersLemmas.{legal-mapped}
use Rattle.laws.proofs.memory_without_a_mapping_is_gone.Goals as goal

pub returns : goal.returns
returns c opening history s legal p page there memory settled =
    let by = mappers_some s.page_tables p (legal-mapped opening history s legal p page there memory settled) in
    (by.task, by.place, legal-live opening history s legal by.task by.place p by.mapped, by.mapped)
