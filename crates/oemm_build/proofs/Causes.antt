-- The faults that a build answers, call by call.
use Rattle.std.proofs.Common.{◌≡◌, ℕ, List, Option, None, Result, Ok, Err, subst}
use Rattle.std.specs.Prelude.{IfErr}
use Rattle.oemm_build.specs.declared.fault.BuildFault.{BuildFault}
use Rattle.oemm_build.specs.declared.fault.BuildFault.TheVariants.{Mesh, Shape, AlreadyBuilt, Shelf, Memory}
use Rattle.oemm_build.specs.Faults.{FindsIndex, IsAlreadyBuilt, IsOfItems}
use Rattle.oemm_shelf.specs.declared.fault.ShelfFault.TheVariants as shelf

-- ---- kinds of faults

pub items_not_built : (T : Type 0) (e : BuildFault) → IsOfItems e → IsAlreadyBuilt {T = T} (Err e) → ⊥
items_not_built T (Mesh fault) is built = built
items_not_built T (Shape shape) is built = built
items_not_built T AlreadyBuilt is built = is
items_not_built T (Shelf why) is built = built
items_not_built T Memory is built = built

-- ---- what was found under the key of the index

-- nothing, and then a fault of the items
pub finds_items : (T : Type 0) (e : BuildFault) (found : Option (List ℕ)) → IsOfItems e → found ≡ None
    → FindsIndex {T = T} (Err e) found
finds_items T (Mesh fault) found of none = none
finds_items T (Shape shape) found of none = none
finds_items T AlreadyBuilt found of none = absurd of
finds_items T (Shelf why) found of none = absurd of
finds_items T Memory found of none = tt

-- ---- a plan, where there was no index

pub plan_finds : {T : Type 0} (r : Result T BuildFault) (found : Option (List ℕ)) → IfErr r IsOfItems → found ≡ None
    → FindsIndex r found
plan_finds {T} (Ok x) found kind none = none
plan_finds {T} (Err e) found kind none = finds_items T e found kind none

pub plan_not_built : {T : Type 0} (r : Result T BuildFault) → IfErr r IsOfItems → IsAlreadyBuilt r → ⊥
plan_not_built {T} (Ok x) kind built = built
plan_not_built {T} (Err e) kind built = items_not_built T e kind built

pub plan_not_store : {T : Type 0} (r : Result T BuildFault) → IfErr r IsOfItems → r ≡ Err (Shelf shelf.Store) → ⊥
plan_not_store {T} r kind same = subst (λ (x : Result T BuildFault). IfErr x IsOfItems) same kind
