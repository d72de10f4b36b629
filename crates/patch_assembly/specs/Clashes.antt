-- What sheets have in common that no mesh has, and what they make if they have nothing of the kind.
use Rattle.std.specs.Prelude.{◌≡◌, ℕ, ◌<◌, Bool, ◌==◌, nat_lt, if◌then◌else◌, List, [], ◌∷◌, ◌++◌, map, length, count_by}
use Rattle.std.specs.Prelude.{Option, Some, None, Result, Ok, Err, All, ⊤}
use Rattle.std.specs.List.{find, flat_map, sum_by}
use Rattle.std.specs.Option.{option_map, option_or}
use Rattle.std.specs.Ordering.{nat_cmp}
use Rattle.oemm_limits.specs.declared.TheConstants.{MOST_ITEMS}
use Rattle.oemm_lists.specs.Ascending.{in_order}
use Rattle.mesh_data.specs.Planes.{most_planes}
use Rattle.sheet_data.specs.declared.patches.Patch.{Patch}
use Rattle.sheet_data.specs.declared.sheets.LeafSheet.{LeafSheet}
use Rattle.mesh_sheets.specs.Assembled.{assembled, faces_of}
use Rattle.patch_assembly.specs.declared.clash.AssemblyFault.{AssemblyFault}
use Rattle.patch_assembly.specs.declared.clash.AssemblyFault.TheVariants as fault
use Rattle.patch_assembly.specs.declared.clash.Clash.{Clash}
use Rattle.patch_assembly.specs.declared.clash.Clash.TheVariants.{Twice, Planes, Many}

-- the names of the vertices of sheets, as often as they come
abbrev pub names_in : List LeafSheet → List ℕ
names_in sheets = map (λ x. x.name) (flat_map (λ s. s.vertices) sheets)

-- the number of planes in the quadrics of their vertices
abbrev pub planes_in : List LeafSheet → ℕ
planes_in sheets = sum_by (λ x. x.quad.planes) (flat_map (λ s. s.vertices) sheets)

-- the number of their faces
abbrev pub faces_in : List LeafSheet → ℕ
faces_in sheets = length (flat_map faces_of sheets)

-- the name comes more than once
abbrev pub comes_twice : List ℕ → ℕ → Bool
comes_twice names v = nat_lt 1 (count_by (λ n. n == v) names)

-- the least name that comes more than once
abbrev pub least_twice : List ℕ → Option ℕ
least_twice names = find (comes_twice names) (in_order nat_cmp names)

-- a count that passes its limit
abbrev pub if_above : ℕ → (ℕ → Clash) → ℕ → Option Clash
if_above limit clash count = if nat_lt limit count then Some (clash count) else None

-- the first name that stands beside an equal one
abbrev pub first_twice : List ℕ → Option ℕ
first_twice [] = None
first_twice (v ∷ []) = None
first_twice (v ∷ w ∷ names) = if v == w then Some v else first_twice (w ∷ names)

-- What shows that sheets of a core are not of one mesh: the least name that is in two places; or else more planes than
-- a mesh has.
abbrev pub own_clash : List LeafSheet → Option Clash
own_clash inner =
    option_or (option_map Twice (least_twice (names_in inner))) (if_above most_planes Planes (planes_in inner))

-- and what shows it together with the sheets of other leaves: or else more faces than a mesh has
abbrev pub clash_in : List LeafSheet → List LeafSheet → Option Clash
clash_in inner outer = option_or (own_clash inner) (if_above MOST_ITEMS Many (faces_in (inner ++ outer)))

abbrev pub unless : {T : Type 0} → T → Option Clash → Result T Clash
unless x None = Ok x
unless x (Some clash) = Err clash

-- the patch of a core that its own sheets and others make, unless they clash
abbrev pub made : List ℕ → List LeafSheet → List LeafSheet → Result Patch Clash
made core inner outer = unless (assembled core inner outer) (clash_in inner outer)

-- a call that makes it gives it or its clash, or memory ran out
abbrev pub Makes : {T : Type 0} → Result T AssemblyFault → Result T Clash → Type 0
Makes (Ok x) want = want ≡ Ok x
Makes (Err (fault.Clash clash)) want = want ≡ Err clash
Makes (Err fault.Memory) want = ⊤

-- a call tells this clash, or goes on where there is none, or memory ran out
abbrev pub Tells : {T : Type 0} → Result T AssemblyFault → Option Clash → Type 0
Tells (Ok x) want = want ≡ None
Tells (Err (fault.Clash clash)) want = want ≡ Some clash
Tells (Err fault.Memory) want = ⊤

-- each name is one that a mesh can have
abbrev pub AreNamed : List LeafSheet → Type 0
AreNamed sheets = All (λ s. All (λ x. x.name < MOST_ITEMS) s.vertices) sheets
