-- Meshes whose vertices have errors, and what collapses cost by these (Garland and Heckbert, "Surface Simplification
-- Using Quadric Error Metrics", 1997).
use Rattle.std.specs.Prelude.{◌≡◌, ℕ, ◌==◌, ℤ, pos, ◌+ℤ◌, Bool, List, [], ◌∷◌, if◌then◌else◌}
use Rattle.oemm_octree.specs.declared.points.Point.{Point}
use Rattle.mesh_data.specs.declared.edits.Reply.{Reply}
use Rattle.mesh_data.specs.declared.edits.Reply.TheVariants.{DoneAt}
use Rattle.mesh_data.specs.declared.edits.Step.{Step}
use Rattle.mesh_data.specs.Edits.{collapse_verdict_by, collapsed, planes_or_none, point_or_origin}
use Rattle.mesh_data.specs.Mesh.{Mesh}
use Rattle.mesh_data.specs.Planes.{squares}

-- a mesh, and the error of each vertex at each point
pub record ErrorMesh : Type 0 where
  pub mesh : Mesh
  pub error : ℕ → Point → ℤ

-- what it costs to collapse u onto v: the errors of both at the point of v
abbrev pub price : ErrorMesh → ℕ → ℕ → ℤ
price w u v = w.error u (point_or_origin w.mesh v) +ℤ w.error v (point_or_origin w.mesh v)

-- what a collapse of u onto v answers
abbrev pub collapse_reply : (Point → Bool) → ErrorMesh → ℕ → ℕ → ℤ → Reply
collapse_reply inside w u v most = collapse_verdict_by (price w u v) inside w.mesh u v most

-- the collapse of u onto v is done, if its price may be paid
abbrev pub CanCollapse : (Point → Bool) → ErrorMesh → ℕ → ℕ → Type 0
CanCollapse inside w u v = collapse_reply inside w u v (price w u v) ≡ DoneAt (price w u v)

-- the mesh with u collapsed onto v, which takes over the error of u
abbrev pub contracted : ErrorMesh → ℕ → ℕ → ErrorMesh
contracted w u v = record {
  mesh = collapsed w.mesh u v;
  error = λ x p. if x == u then pos 0 else if x == v then w.error v p +ℤ w.error u p else w.error x p;
}

-- the mesh with these collapses made, one after another
abbrev pub contracted_by : ErrorMesh → List Step → ErrorMesh
contracted_by w [] = w
contracted_by w (s ∷ ss) = contracted_by (contracted w s.u s.v) ss

-- what these collapses leave, one after another, where each leaves this
abbrev pub made_by : {X : Type 0} → (X → ℕ → ℕ → X) → X → List Step → X
made_by make x [] = x
made_by make x (s ∷ ss) = made_by make (make x s.u s.v) ss

-- a mesh whose vertices have planes, with the sums of squared values of these as errors
abbrev pub with_plane_errors : Mesh → ErrorMesh
with_plane_errors m = record { mesh = m; error = λ v p. squares (planes_or_none m v) p }
