-- Room for the pairs of a mesh.
use Rattle.std.specs.Prelude.{◌*◌, ◌≤◌, Bool, List, map, filter, length}
use Rattle.std.specs.List.{IsDistinct}
use Rattle.oemm_octree.specs.declared.points.Point.{Point}
use Rattle.mesh_data.specs.declared.geometry.Edge.{Edge}
use Rattle.mesh_data.specs.Mesh.{Mesh}
use Rattle.mesh_data.specs.Triangles.{same_edge}
use Rattle.collapse_queue.specs.declared.candidate.Candidate.{Candidate}
use Rattle.collapse_queue.specs.Candidates.{is_live}
use Rattle.collapse_queue.specs.Queues.{Queued, IsLive}
use Rattle.queued_simplify.specs.Served.{IsPair}

abbrev pub pair_of : Candidate → Edge
pair_of c = record { a = c.u; b = c.v }

-- the pairs of the live items
abbrev pub live_pairs : Queued → List Edge
live_pairs q = map pair_of (filter (is_live q.stamps) q.items)

-- the live items are different pairs of the mesh, and there is room for six items a triangle
pub record IsRoomy (inside : Point → Bool) (m : Mesh) (q : Queued) : Type 0 where
  pub once : IsDistinct same_edge (live_pairs q)
  pub pairs : (c : Candidate) → IsLive q c → IsPair inside m c.u c.v
  pub room : 6 * length m.tris ≤ q.room
