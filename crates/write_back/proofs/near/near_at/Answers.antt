use Rattle.std.proofs.Common.{◌≡◌, ◌∙◌, ◌||◌, ℕ, List, ltb, filter, map, ap, subst, sym}
use Rattle.std.proofs.lemmas.List.Kept.{IsStrictlyIncreasing-filter}
use Rattle.std.specs.List.{flat_map}
use Rattle.std.specs.List.Sorted.{IsStrictlyIncreasing}
use Rattle.oemm_octree.specs.Leaves.{is_one_of}
use Rattle.mesh_data.specs.declared.geometry.Tri.{Tri}
use Rattle.neighbour_index.specs.Neighbours.{are_neighbours}
use Rattle.write_back.specs.Homes.{with_homes}
use Rattle.write_back.proofs.NearLists.{near_list}
use Rattle.write_back.proofs.near.near_at.Goals as goal

pub of-requires : goal.of-requires
of-requires c =
    let low : List ℕ → List ℕ = filter (λ l. ltb l c.args.none) in
    subst IsStrictlyIncreasing
    (sym (c.from_vec.ensures ∙ c.in_ok-lower.ensures ∙ ap low c.slice.ensures.items))
    (IsStrictlyIncreasing-filter (λ l. ltb l c.args.none) c.in_ok-near.near c.slice.ensures.ascending)

pub returns : goal.returns
returns c =
    let none = c.args.none in
    let leaf = c.args.leaf in
    let low : List ℕ → List ℕ = filter (λ l. ltb l none) in
    let listing : List Tri → List (ℕ × ℕ) = flat_map (with_homes c.args.homes.now none) in
    let faces : c.as_slice-faces.result.now ≡ map (λ x. x.1) c.args.own.now =
    c.as_slice-faces.ensures.value ∙ c.in_ok-tris.ensures in
    let listed : c.as_slice.result.now ≡ listing (map (λ x. x.1) c.args.own.now) =
    c.as_slice.ensures.value ∙ c.in_ok-listed.ensures ∙ ap listing faces in
    c.of.ensures ∙ c.from_vec.ensures ∙ c.in_ok-lower.ensures ∙ ap low c.slice.ensures.items
    ∙ near_list c.in_ok-near.near none _ c.slice.ensures.ascending (λ l.
    c.in_ok-near.ensures l
    ∙ (λ i. is_one_of c.args.outside.now l
    || (c.in_ok-inside.ensures l ∙ (λ j. are_neighbours (faces j) (listed j) leaf l)) i))
