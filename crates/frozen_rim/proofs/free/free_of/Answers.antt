use Rattle.std.proofs.Common.{◌≡◌, ap, ◌∙◌, subst, sym, not, filter}
use Rattle.std.specs.List.Sorted.{IsStrictlyIncreasing}
use Rattle.oemm_lists.specs.Numbers.{among}
use Rattle.frozen_rim.proofs.Freedom.{free_names, kept_rise}
use Rattle.frozen_rim.proofs.free.free_of.Goals as goal

pub of-requires : goal.of-requires
of-requires c =
    subst IsStrictlyIncreasing (sym c.from_vec.ensures) (kept_rise c.args.held.now c.set_of-frozen.result c.in_ok-names.names.items c.slice.ensures.ascending
    (c.in_ok-names.ensures ∙ ap (filter (λ v. not (among v c.set_of-frozen.result))) c.slice.ensures.items))

pub returns : goal.returns
returns c = λ v.
    let frozen = c.set_of-frozen.result in
    ap (among v) (c.of.ensures ∙ c.from_vec.ensures)
    ∙ free_names c.args.faces.now c.args.held.now frozen c.in_ok-names.names.items v
    (λ w. c.set_of-frozen.ensures w ∙ ap (among w) c.in_ok-mixed_corners.ensures)
    (c.in_ok-names.ensures ∙ ap (filter (λ x. not (among x frozen))) c.slice.ensures.items)
