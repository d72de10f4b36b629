-- What the indices of a face mean.
use Rattle.std.specs.Prelude.{ℕ, ◌||◌, ◌==◌, nat_lt, ℤ, pos, negsuc, if◌then◌else◌, Option, Some, None, Result, Ok, Err}
use Rattle.std.specs.Option.{ok_or}
use Rattle.mesh_data.specs.declared.geometry.Tri.{Tri}
use Rattle.mesh_items.specs.declared.items.MeshWhy.TheVariants.{BadIndex, Repeated}
use Rattle.mesh_items.specs.declared.items.MeshFault.{MeshFault}
use Rattle.mesh_items.specs.declared.items.MeshFault.TheVariants.{Text}
use Rattle.mesh_items.specs.Results.{◌>>=◌}

-- the name that an index means among so many vertices, if it is in range
abbrev pub name_of : ℕ → ℤ → Option ℕ
name_of vertices (pos n) = if nat_lt n vertices then Some n else None
name_of vertices (negsuc n) = None

-- the triangle that three indices of this face mean, of which each is to be in range and none is to come twice
unfoldable pub triangle_of : ℕ → ℕ → Option ℕ → Option ℕ → Option ℕ → Result Tri MeshFault
triangle_of at face i j k = do
  a ← ok_or i (Text at (BadIndex face))
  b ← ok_or j (Text at (BadIndex face))
  c ← ok_or k (Text at (BadIndex face))
  if a == b || b == c || c == a then Err (Text at (Repeated face)) else Ok (record { a = a; b = b; c = c })
