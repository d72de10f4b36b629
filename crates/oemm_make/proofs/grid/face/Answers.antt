use Rattle.std.proofs.Common.{◌≡◌, ◌*◌, arith, sym, subst, ap, ◌∙◌, get_or, ◌+◌, ◌-◌, ◌/◌, ◌%◌, ℕ}
use Rattle.mesh_data.specs.Triangles.{IsBelow}
use Rattle.oemm_make.specs.Sample.{faces_at}
use Rattle.oemm_make.proofs.Faces.{corners_there, face_is}
use Rattle.oemm_make.proofs.grid.face.Goals as goal

pub returns-then-place-eq0-clause-exact : goal.returns-then-place-eq0-clause-exact
returns-then-place-eq0-clause-exact c =
    let side = c.args.side in
    let place = c.args.place in
    let t = c.tri.result in
    face_is side place t c.requires.least c.requires.inside
    (c.tri.ensures ∙ ap (λ (k : ℕ). get_or (faces_at side (place / 2 / (side - 1) * side + place / 2 % (side - 1))) k t) (sym c.if-place-eq0.true))

pub returns-then-place-eq0-clause-below : goal.returns-then-place-eq0-clause-below
returns-then-place-eq0-clause-below c =
    let there = corners_there c.args.side c.args.place c.requires.least c.requires.inside in
    subst (IsBelow (c.args.side * c.args.side)) (sym c.tri.ensures) (omega arith, omega arith, omega arith)

pub returns-else-place-eq0-clause-exact : goal.returns-else-place-eq0-clause-exact
returns-else-place-eq0-clause-exact c =
    let side = c.args.side in
    let place = c.args.place in
    let t = c.tri-else-place-eq0.result in
    let other : place % 2 ≡ 1 = omega arith in
    face_is side place t c.requires.least c.requires.inside
    (c.tri-else-place-eq0.ensures ∙ ap (λ (k : ℕ). get_or (faces_at side (place / 2 / (side - 1) * side + place / 2 % (side - 1))) k t) (sym other))

pub returns-else-place-eq0-clause-below : goal.returns-else-place-eq0-clause-below
returns-else-place-eq0-clause-below c =
    let there = corners_there c.args.side c.args.place c.requires.least c.requires.inside in
    subst (IsBelow (c.args.side * c.args.side)) (sym c.tri-else-place-eq0.ensures) (omega arith, omega arith, omega arith)
