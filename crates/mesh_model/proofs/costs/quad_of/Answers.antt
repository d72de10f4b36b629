use Rattle.std.proofs.Common.{◌≡◌, ◌∙◌, length, take, get_or, take-suc, length-take-le, pos, ap, sym, arith, add-one}
use Rattle.mesh_data.specs.declared.planes.Plane.{Plane}
use Rattle.mesh_data.specs.Planes.{Sums, products, added, sums_of}
use Rattle.oemm_plane.proofs.Sums.{planes-sums_of, sums_of-push}
use Rattle.mesh_model.proofs.costs.quad_of.Goals as goal

abbrev none : Plane
none = record { nx = pos 0; ny = pos 0; nz = pos 0; d = pos 0 }

pub add_plane-requires-clause-room : goal.add_plane-requires-clause-room
add_plane-requires-clause-room c =
    let ps = c.args.planes.now in
    let i = c.loop-plane.plane-index in
    let counted : c.loop-plane.quad.planes ≡ length (take i ps) = ap (λ (s : Sums). s.planes) c.loop-plane.invariant.told ∙ planes-sums_of (take i ps) in
    let lt = c.loop-plane-test.true in
    omega (arith, counted, length-take-le i ps, c.requires.few, lt)

pub loop-plane-preserved : goal.loop-plane-preserved
loop-plane-preserved c =
    let ps = c.args.planes.now in
    let i = c.loop-plane.plane-index in
    let l = get_or ps i none in
    record {
      told = c.add_plane.ensures ∙ ap (λ (s : Sums). added (products l) s) c.loop-plane.invariant.told
          ∙ sym (sums_of-push (take i ps) l) ∙ ap sums_of (sym (take-suc ps i none (omega arith))) ∙ ap (λ n. sums_of (take n ps)) (sym (add-one i));
    }
