use Rattle.std.proofs.Common.{◌≤◌, List, length, map, sym, ap, ◌∙◌, subst}
use Rattle.std.specs.List.{sum_by}
use Rattle.std.specs.List.Sorted.{IsStrictlyIncreasing}
use Rattle.oemm_limits.specs.declared.TheConstants.{MOST_ITEMS}
use Rattle.sheet_data.specs.Summed.{SummedVertex}
use Rattle.patch_assembly.specs.Clashes.{first_twice}
use Rattle.patch_assembly.proofs.Vertices.{name, is_twice, few_held, names_increase, no_clash, too_many, vertices_are}
use Rattle.patch_assembly.proofs.held.held_by.Goals as goal

pub returns-in-Some-clause-tells : goal.returns-in-Some-clause-tells
returns-in-Some-clause-tells c =
    is_twice c.args.inner.now c.in_ok-vertices.vertices.items c.in_ok-names.names.items
    c.in_ok-vertices.ensures.moved c.in_ok-vertices.ensures.sorted
    (c.in_ok-names.ensures ∙ ap (map name) c.as_slice.ensures.value) c.in-Some.v
    (ap first_twice (sym c.as_slice-2.ensures.value) ∙ sym c.first_twice.ensures ∙ c.in-Some.is)

pub planes_of-count-requires : goal.planes_of-count-requires
planes_of-count-requires c =
    subst (λ (xs : List SummedVertex). length xs ≤ MOST_ITEMS) (sym c.as_slice-3.ensures.value)
    (few_held c.args.inner.now c.in_ok-vertices.vertices.items c.in_ok-names.names.items
    c.in_ok-vertices.ensures.moved c.in_ok-vertices.ensures.sorted
    (c.in_ok-names.ensures ∙ ap (map name) c.as_slice.ensures.value)
    (ap first_twice (sym c.as_slice-2.ensures.value) ∙ sym c.first_twice.ensures ∙ c.in_default.is) c.requires)

pub returns-then-count-gt-MOST_PLANES-clause-tells : goal.returns-then-count-gt-MOST_PLANES-clause-tells
returns-then-count-gt-MOST_PLANES-clause-tells c =
    too_many c.args.inner.now c.in_ok-vertices.vertices.items c.in_ok-names.names.items
    c.in_ok-vertices.ensures.moved c.in_ok-vertices.ensures.sorted
    (c.in_ok-names.ensures ∙ ap (map name) c.as_slice.ensures.value)
    (ap first_twice (sym c.as_slice-2.ensures.value) ∙ sym c.first_twice.ensures ∙ c.in_default.is)
    c.planes_of-count.result
    (c.planes_of-count.ensures ∙ ap (sum_by (λ (x : SummedVertex). x.quad.planes)) c.as_slice-3.ensures.value)
    c.if-count-gt-MOST_PLANES.true

pub of-requires : goal.of-requires
of-requires c =
    subst IsStrictlyIncreasing (sym c.from_vec.ensures)
    (names_increase c.args.inner.now c.in_ok-vertices.vertices.items c.in_ok-names.names.items
    c.in_ok-vertices.ensures.moved c.in_ok-vertices.ensures.sorted
    (c.in_ok-names.ensures ∙ ap (map name) c.as_slice.ensures.value)
    (ap first_twice (sym c.as_slice-2.ensures.value) ∙ sym c.first_twice.ensures ∙ c.in_default.is))

pub returns-clause-tells : goal.returns-clause-tells
returns-clause-tells c =
    no_clash c.args.inner.now c.in_ok-vertices.vertices.items c.in_ok-names.names.items
    c.in_ok-vertices.ensures.moved c.in_ok-vertices.ensures.sorted
    (c.in_ok-names.ensures ∙ ap (map name) c.as_slice.ensures.value)
    (ap first_twice (sym c.as_slice-2.ensures.value) ∙ sym c.first_twice.ensures ∙ c.in_default.is)
    c.planes_of-count.result
    (c.planes_of-count.ensures ∙ ap (sum_by (λ (x : SummedVertex). x.quad.planes)) c.as_slice-3.ensures.value)
    c.if-count-gt-MOST_PLANES.false

pub returns-clause-vertices : goal.returns-clause-vertices
returns-clause-vertices c =
    vertices_are c.args.inner.now c.in_ok-vertices.vertices.items c.in_ok-names.names.items
    c.in_ok-vertices.ensures.moved c.in_ok-vertices.ensures.sorted
    (c.in_ok-names.ensures ∙ ap (map name) c.as_slice.ensures.value)
    (ap first_twice (sym c.as_slice-2.ensures.value) ∙ sym c.first_twice.ensures ∙ c.in_default.is)
