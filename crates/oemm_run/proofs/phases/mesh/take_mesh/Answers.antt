use Rattle.std.proofs.Common.{◌++◌, IfSome, subst, sym, arith}
use Rattle.std.proofs.lemmas.List.{length-take-le}
use Rattle.std.specs.Option.{option_map}
use Rattle.mesh_items.specs.Reading.{soup}
use Rattle.oemm_io.specs.Head.{WithHead}
use Rattle.oemm_run.specs.Outside.{HasTaken}
use Rattle.oemm_run.specs.Soup.{limited, reading_in, GivesSoup}
use Rattle.oemm_run.proofs.Sources.{gives_behind_front}
use Rattle.oemm_run.proofs.Takings.{taken_behind}
use Rattle.oemm_run.proofs.phases.mesh.take_mesh.Goals as goal

pub returns-clause-told : goal.returns-clause-told
returns-clause-told g c =
    gives_behind_front _ _ _ c.is_ply-is_ply.result _ c.in-Ok.ensures.taken
    (λ few. c.in-Ok.ensures.end (omega (arith, few, length-take-le c.in-Ok.count c.take_prefix.new.front (omega (arith, c.in-Ok.ensures.count, c.take_prefix.array_long)))))
    c.is_ply-is_ply.ensures
    (subst (λ (h : WithHead _). IfSome (option_map (λ rest. h.head ++ rest) (g.M.Source.left h.source)) (λ bytes. GivesSoup c.read_soup_in-headed.result.1 (soup (limited (reading_in c.is_ply-is_ply.result bytes))))) c.new-headed.ensures c.read_soup_in-headed.ensures.told)

pub returns-clause-taken : goal.returns-clause-taken
returns-clause-taken g c =
    let left = g.M.Source.left in
    let headed = c.read_soup_in-headed.result.0 in
    let behind = subst (λ (h : WithHead _). HasTaken (option_map (λ rest. h.head ++ rest) (left h.source)) (option_map (λ rest. headed.head ++ rest) (left headed.source))) c.new-headed.ensures c.read_soup_in-headed.ensures.taken in
    subst (λ s. HasTaken (left c.args.source) (left s)) (sym c.into_source.ensures) (taken_behind _ _ _ _ _ c.in-Ok.ensures.taken behind)
