-- Steps that give a value, one behind the other.
use Rattle.std.proofs.Common.{◌≡◌, Result, Ok, Err, refl}
use Rattle.mesh_items.specs.declared.items.MeshFault.{MeshFault}
use Rattle.mesh_items.specs.Results.{◌>>=◌}

pub ok_is : {A : Type 0} (x y : A) → Ok x ≡ (let r : Result A MeshFault = Ok y in r) → x ≡ y
ok_is x y e = cc

-- what two steps give, one behind the other
pub record Bound {A B : Type 0} (o : Result A MeshFault) (f : A → Result B MeshFault) (y : B) : Type 0 where
  pub value : A
  pub first : o ≡ Ok value
  pub next : f value ≡ Ok y

pub bound : {A B : Type 0} (o : Result A MeshFault) (f : A → Result B MeshFault) (y : B) → (o >>= f) ≡ Ok y → Bound o f y
bound (Ok x) f y e = record { value = x; first = refl; next = e }
bound (Err fault) f y e = absurd cc
