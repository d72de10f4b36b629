use Rattle.std.proofs.Common.{◌<◌, ℕ, ◌++◌, ◌∷◌, [], length, set, subst, arith}
use Rattle.leaf_export.specs.Tables.{ArePlaces}
use Rattle.leaf_export.proofs.Looking.{places_more}
use Rattle.leaf_export.proofs.places.place_name.Goals as goal

pub returns-then-table-slot-clause-placed : goal.returns-then-table-slot-clause-placed
returns-then-table-slot-clause-placed c = λ names count are.
    let table = c.args.table.now in
    let v = c.v.inside.0 in
    let lt : v < length table = omega (arith, c.requires.room, c.v.view_is) in
    subst (λ (n : ℕ). ArePlaces (names ++ n ∷ []) (set table v c.args.place)) c.v.view_is
    (places_more names table v c.args.place lt c.requires.some count are c.if-table-slot.true)
