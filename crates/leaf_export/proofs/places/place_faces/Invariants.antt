use Rattle.std.proofs.Common.{◌≡◌, ◌≤◌, ℕ, get_or, map, take}
use Rattle.mesh_data.specs.declared.geometry.Tri.{Tri}
use Rattle.leaf_export.specs.Tables.{looked_up}
use Rattle.leaf_export.proofs.places.place_faces.Given as goal

abbrev pub invariant-loop-t : goal.invariant-loop-t
invariant-loop-t l = record {
  done : take l.t-index l.faces ≡ map (looked_up l.table) (take l.t-index l.initial.faces);
  kept : (k : ℕ) (d : Tri) → l.t-index ≤ k → get_or l.faces k d ≡ get_or l.initial.faces k d;
}
