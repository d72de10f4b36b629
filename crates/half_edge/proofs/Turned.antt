-- Triangles turned and put in order: they stay oriented, and their rings stay.
use Rattle.std.proofs.Common.{◌≡◌, ℕ, Bool, List, [], ◌∷◌, map, sym, ◌∙◌, refl, subst, arith, inl}
use Rattle.std.specs.List.{All}
use Rattle.mesh_data.specs.declared.geometry.Edge.{Edge}
use Rattle.mesh_data.specs.declared.geometry.Tri.{Tri}
use Rattle.oemm_lists.specs.Ascending.{in_order}
use Rattle.mesh_data.specs.Manifold.{HasRing, IsEachEdgeOnce}
use Rattle.mesh_data.specs.RingChanges.{IsOriented}
use Rattle.mesh_data.specs.Triangles.{IsProper, same_edge, tri_cmp, turned}
use Rattle.triangle_edits.proofs.Results.{turned_keeps}
use Rattle.face_rings.proofs.Fans.{different_of, proper_turns}
use Rattle.face_rings.proofs.Members.{in_order_from, map_from}
use Rattle.face_rings.proofs.Named.{Different}
use Rattle.face_rings.proofs.Oriented.{oriented_of}
use Rattle.face_rings.proofs.Tallies.{once_of, sides-turned, tally, tally-cons, tally-in_order}
use Rattle.half_edge.proofs.Faces.{link_step}
use Rattle.half_edge.proofs.Making.{face_in_order}

abbrev pub turned_order : List Tri → List Tri
turned_order ts = in_order tri_cmp (map turned ts)

tally-map : (p : Edge → Bool) (ts : List Tri) → tally p (map turned ts) ≡ tally p ts
tally-map p [] = refl
tally-map p (t ∷ ts) = omega (
  arith,
  tally-cons p (turned t) (map turned ts),
  sides-turned p t,
  tally-map p ts,
  tally-cons p t ts,
)

-- three different names in each, and no directed edge twice
pub oriented_turned : (ts : List Tri) → All IsProper ts → IsEachEdgeOnce ts → IsOriented (turned_order ts)
oriented_turned ts proper once =
    oriented_of (turned_order ts) different
    (λ e. omega (arith, tally-in_order (same_edge e) (map turned ts), tally-map (same_edge e) ts, once_of ts once e))
  where
    different : Different (turned_order ts)
    different a b c f =
        let was = map_from turned ts f.0 (in_order_from f.0 (map turned ts) f.1) in
        let before : IsProper was.0 = different_of ts proper was.0.a was.0.b was.0.c (was.0, was.1, inl refl) in
        proper_turns f.0 a b c (subst IsProper (sym was.2)
        (turned_keeps IsProper (λ t h. (h.1, h.2, h.0)) was.0 before)) f.2

-- a ring of a name
pub ring_turned : (ts : List Tri) (v : ℕ) → HasRing ts v → HasRing (turned_order ts) v
ring_turned ts v has = (
  has.0,
  record {
    distinct = has.1.distinct;
    long = has.1.long;
    along = λ e. link_step (turned_order ts) v e.a e.b ∙ face_in_order ts v e.a e.b ∙ sym (link_step ts v e.a e.b)
        ∙ has.1.along e;
  },
)
