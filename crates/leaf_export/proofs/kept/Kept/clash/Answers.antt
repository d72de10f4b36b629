use Rattle.std.proofs.Common.{◌≡◌, ◌<◌, ◌∙◌, ℕ, List, ap, sym, length, arith, None, Some}
use Rattle.mesh_data.specs.declared.geometry.Tri.{Tri}
use Rattle.oemm_limits.specs.declared.TheConstants.{MOST_ITEMS}
use Rattle.patch_assembly.specs.Clashes.{least_twice}
use Rattle.patch_assembly.specs.declared.clash.Clash.TheVariants.{Many}
use Rattle.leaf_export.proofs.Clashing.{are_many, are_planes, is_none}
use Rattle.leaf_export.proofs.kept.Kept.clash.Goals as goal

pub returns-then-self-gt-MOST_PLANES-clause-told :
    goal.returns-then-self-gt-MOST_PLANES-clause-told
returns-then-self-gt-MOST_PLANES-clause-told c = λ sheets cells names keeps formed few.
    let none : least_twice c.args.self.now.names.items ≡ None =
    ap least_twice (sym c.as_slice.ensures.value) ∙ sym c.in_ok-v.ensures ∙ c.in_default.is in
    are_planes sheets c.args.self.now keeps cells names formed few none c.if-self-gt-MOST_PLANES.true

pub returns-then-count-gt-MOST_ITEMS-clause-told :
    goal.returns-then-count-gt-MOST_ITEMS-clause-told
returns-then-count-gt-MOST_ITEMS-clause-told c = λ sheets cells names keeps formed few.
    let none : least_twice c.args.self.now.names.items ≡ None =
    ap least_twice (sym c.as_slice.ensures.value) ∙ sym c.in_ok-v.ensures ∙ c.in_default.is in
    let count : length c.as_slice-2.result.now ≡ length c.args.self.now.faces.items = ap (λ (ts : List Tri). length ts) c.as_slice-2.ensures.value in
    let many : MOST_ITEMS < length c.args.self.now.faces.items = omega (arith, c.if-count-gt-MOST_ITEMS.true, count) in
    ap (λ (n : ℕ). Some (Many n)) count
    ∙ are_many sheets c.args.self.now keeps cells names formed few none c.if-self-gt-MOST_PLANES.false many

pub returns-clause-told : goal.returns-clause-told
returns-clause-told c = λ sheets cells names keeps formed few.
    let none : least_twice c.args.self.now.names.items ≡ None =
    ap least_twice (sym c.as_slice.ensures.value) ∙ sym c.in_ok-v.ensures ∙ c.in_default.is in
    is_none sheets c.args.self.now keeps cells names formed few none c.if-self-gt-MOST_PLANES.false
    (let count : length c.as_slice-2.result.now ≡ length c.args.self.now.faces.items = ap (λ (ts : List Tri). length ts) c.as_slice-2.ensures.value in
    omega (arith, c.if-count-gt-MOST_ITEMS.false, count))
