-- What a core's sheets and those round it show.
use Rattle.std.proofs.Common.{◌≡◌, ℕ, ◌+◌, ◌<◌, ◌≤◌, Bool, true, false, cond, not, ◌||◌, eqb, List, [], ◌∷◌, ◌++◌, length, get_or, map, set, take, refl, sym, ap, ◌∙◌, subst, arith, Option, Some, None, Result, Ok, Err, IfOk, OnOk}
use Rattle.std.specs.Prelude.{slice_index}
use Rattle.std.specs.List.{All}
use Rattle.std.proofs.lemmas.Bool.{eq-eqb, eqb-false, eqb-true, false≢true}
use Rattle.std.proofs.lemmas.Grind.{get_or-set_at}
use Rattle.std.proofs.lemmas.List.{get_or-map, get_or-set_other, length-map, length-take-le, map_push, take_more}
use Rattle.std.proofs.lemmas.List.Elements.{All-push, All-same}
use Rattle.std.proofs.lemmas.List.Sums.{count_by-le-length}
use Rattle.std.proofs.lemmas.List.Folds.{list_any_at, list_any_more}
use Rattle.oemm_octree.specs.Leaves.{AreBelow, is_one_of}
use Rattle.oemm_blobs.specs.declared.keys.Key.TheVariants as key
use Rattle.mesh_sheets.specs.Assembled.{assembled, rim_of}
use Rattle.mesh_data.specs.declared.edits.Entry.{Entry}
use Rattle.patch_assembly.specs.Clashes.{Makes, clash_in, made, unless}
use Rattle.patch_assembly.specs.declared.clash.AssemblyFault.{AssemblyFault}
use Rattle.patch_assembly.specs.declared.clash.AssemblyFault.TheVariants as assembly
use Rattle.stored_mesh.specs.Versions.{version}
use Rattle.stored_mesh.proofs.Versions.{version_push}
use Rattle.patch_assembly.specs.declared.clash.Clash.{Clash}
use Rattle.patch_assembly.proofs.Agrees.{agrees}
use Rattle.sheet_data.specs.declared.index.IndexSheet.{IndexSheet}
use Rattle.sheet_data.specs.declared.patches.Patch.{Patch}
use Rattle.sheet_data.specs.declared.sheets.LeafSheet.{LeafSheet}
use Rattle.sheet_forms.specs.Formed.{IsPatchFor, IsSheetOf}
use Rattle.sheet_forms.proofs.Storable.{rim_outside}
use Rattle.sheet_forms.proofs.WellFormed.{assembled_formed}
use Rattle.oemm_shelf.specs.Cached.{Lists, RoseBy, has, lacking}
use Rattle.oemm_shelf.specs.Readings.{assembly_fault, leaf_key}
use Rattle.oemm_shelf.specs.Shelves.{IsShelf}
use Rattle.oemm_shelf.specs.Shown.{AreGathered, ShowsLeaf, ShowsPatch, ShowsSheet}
use Rattle.oemm_shelf.specs.declared.fault.ShelfFault.{ShelfFault}
use Rattle.oemm_shelf.specs.declared.fault.ShelfFault.TheVariants as fault

-- a leaf of a list whose leaves are among so many
pub below_at : (n : ℕ) (ls : List ℕ) (k l : ℕ) → AreBelow n ls → k < length ls → get_or ls k l ≡ l → l < n
below_at n ls k l below lt is = below l (list_any_at (λ m. eqb l m) ls k l lt (eq-eqb l (get_or ls k l) (sym is)))

-- a leaf's fault is that of one of the leaves
pub shows_leaf : (i : IndexSheet) (versions : List ℕ) (leaf version : ℕ) (why : ShelfFault) → leaf < length i.cells
    → key.Leaf leaf version ≡ leaf_key versions leaf → ShowsSheet i leaf (key.Leaf leaf version) (Err why) → ShowsLeaf i versions why
shows_leaf i versions leaf version (fault.Damaged at bytes) lt is shows = (leaf, lt, shows.0 ∙ is, shows.1)
shows_leaf i versions leaf version (fault.Absent at) lt is shows = (leaf, lt, shows ∙ is)
shows_leaf i versions leaf version (fault.Clash clash) lt is shows = shows
shows_leaf i versions leaf version fault.Store lt is shows = tt
shows_leaf i versions leaf version fault.Memory lt is shows = tt

-- a leaf's fault is one of the patch
pub shows_patch : (i : IndexSheet) (versions core : List ℕ) (before now : ℕ) (why : ShelfFault) → ShowsLeaf i versions why
    → ShowsPatch i versions core before now (Err why)
shows_patch i versions core before now (fault.Damaged at bytes) shows = shows
shows_patch i versions core before now (fault.Absent at) shows = shows
shows_patch i versions core before now (fault.Clash clash) shows = absurd shows
shows_patch i versions core before now fault.Store shows = tt
shows_patch i versions core before now fault.Memory shows = tt

-- each of these sheets lies outside, as its leaf does
all_outside : (core : List ℕ) (outer : List LeafSheet) (rim : List ℕ) → map (λ s. s.leaf) outer ≡ rim
    → ((l : ℕ) → is_one_of rim l ≡ true → is_one_of core l ≡ false) → All (λ s. is_one_of core s.leaf ≡ false) outer
all_outside core outer rim is out = λ k d lt.
    let l = (get_or outer k d).leaf in
    let at : get_or rim k l ≡ l = ap (λ (ls : List ℕ). get_or ls k l) (sym is) ∙ get_or-map (λ (s : LeafSheet). s.leaf) outer k d l lt in
    let len : length rim ≡ length outer = ap (λ (ls : List ℕ). length ls) (sym is) ∙ length-map outer (λ (s : LeafSheet). s.leaf) in
    out l (list_any_at (λ m. eqb l m) rim k l (omega (arith, len, lt)) (eq-eqb l (get_or rim k l) (sym at)))

pub gathered : (i : IndexSheet) (versions core rim : List ℕ) (inner outer : List LeafSheet) → IsShelf i versions
    → map (λ s. s.leaf) inner ≡ core → All (λ s. IsSheetOf i.cells i.vertices s.leaf s) inner
    → map (λ s. s.leaf) outer ≡ rim → All (λ s. IsSheetOf i.cells i.vertices s.leaf s) outer
    → rim ≡ rim_of i.cells core inner → AreGathered i core inner outer
gathered i versions core rim inner outer shelf of_core inner_formed of_rim outer_formed is_rim = record {
  given = record {
    of_core = of_core;
    inner_formed = inner_formed;
    outer_formed = outer_formed;
    outside = all_outside core outer (rim_of i.cells core inner) (of_rim ∙ is_rim) (rim_outside i.cells core inner);
    few_names = shelf.rules.vertices;
  };
  rim = of_rim ∙ is_rim;
}

pub lists_none : (May : ℕ → ℕ → Type 0) (before now : ℕ) → before ≤ now → Lists May [] [] before now
lists_none May before now le = record {
  adds = λ leaf version h. absurd (false≢true h);
  got = omega (arith, le);
}

-- what was made is well formed
pub patch_formed : (i : IndexSheet) (core : List ℕ) (inner outer : List LeafSheet) (p : Patch)
    → AreGathered i core inner outer → made core inner outer ≡ Ok p → IsPatchFor i.cells core p
patch_formed i core inner outer p gathered is =
    let none : clash_in inner outer ≡ None = no_clash (assembled core inner outer) (clash_in inner outer) p is in
    let made_is : assembled core inner outer ≡ p = same_patch (assembled core inner outer) (clash_in inner outer) p is in
    subst (IsPatchFor i.cells core) made_is
    (assembled_formed i.cells i.vertices core inner outer gathered.given ((agrees inner outer).0 none))
  where
    no_clash : (q : Patch) (o : Option Clash) (p : Patch) → unless q o ≡ Ok p → o ≡ None
    no_clash q None p is = refl
    no_clash q (Some clash) p is = absurd (cc)

    same_patch : (q : Patch) (o : Option Clash) (p : Patch) → unless q o ≡ Ok p → q ≡ p
    same_patch q None p is = cc
    same_patch q (Some clash) p is = absurd (cc)

pub shows_assembly : (i : IndexSheet) (versions core : List ℕ) (before now : ℕ) (inner outer : List LeafSheet)
    (why : AssemblyFault) → AreGathered i core inner outer → Makes {T = Patch} (Err why) (made core inner outer)
    → now ≤ before + (length core + length outer) → ShowsPatch i versions core before now (Err (assembly_fault why))
shows_assembly i versions core before now inner outer (assembly.Clash clash) gathered is le = (inner, outer, gathered, is, le)
shows_assembly i versions core before now inner outer assembly.Memory gathered is le = tt

pub patch_shown : (i : IndexSheet) (versions core : List ℕ) (before now : ℕ) (r : Result Patch ShelfFault)
    → ShowsPatch i versions core before now r → IfOk r (IsPatchFor i.cells core)
patch_shown i versions core before now (Ok p) shows = patch_formed i core shows.0 shows.1 p shows.2 shows.3
patch_shown i versions core before now (Err why) shows = tt

pub least_gets : (r : Result Patch ShelfFault) (cached : List (ℕ × ℕ)) (versions core : List ℕ) (before now : ℕ)
    → OnOk r (RoseBy (length core) before now) → OnOk r (RoseBy (lacking cached versions core) before now)
least_gets (Ok p) cached versions core before now rose =
    omega (arith, rose, count_by-le-length (λ leaf. not (has cached leaf (slice_index versions leaf))) core)
least_gets (Err why) cached versions core before now rose = tt

-- ---- one sheet more

pub item_is : (ls : List ℕ) (k x y : ℕ) → y ≡ x → x ≡ get_or ls k x → get_or ls k y ≡ y
item_is ls k x y e is = (λ j. get_or ls k (e j)) ∙ sym is ∙ sym e

pub leaves_more : (sheets : List LeafSheet) (s : LeafSheet) (new : List LeafSheet) (leaves : List ℕ) (n leaf : ℕ)
    → new ≡ sheets ++ s ∷ [] → map (λ s. s.leaf) sheets ≡ take n leaves → s.leaf ≡ leaf → get_or leaves n leaf ≡ leaf
    → n < length leaves → map (λ s. s.leaf) new ≡ take (n + 1) leaves
leaves_more sheets s new leaves n leaf is so_far of_leaf at lt =
    ap (map (λ (s : LeafSheet). s.leaf)) is
    ∙ map_push (λ (s : LeafSheet). s.leaf) sheets s
    ∙ (λ j. so_far j ++ (of_leaf ∙ sym at) j ∷ [])
    ∙ sym (take_more leaves n leaf lt)

pub formed_more : (i : IndexSheet) (sheets : List LeafSheet) (s : LeafSheet) (new : List LeafSheet) (leaf : ℕ)
    → new ≡ sheets ++ s ∷ [] → All (λ s. IsSheetOf i.cells i.vertices s.leaf s) sheets → IsSheetOf i.cells i.vertices leaf s
    → All (λ s. IsSheetOf i.cells i.vertices s.leaf s) new
formed_more i sheets s new leaf is so_far formed =
    All-same (λ s. IsSheetOf i.cells i.vertices s.leaf s) new (sheets ++ s ∷ []) is
    (All-push (λ s. IsSheetOf i.cells i.vertices s.leaf s) sheets s so_far
    (subst (λ (l : ℕ). IsSheetOf i.cells i.vertices l s) (sym formed.is_leaf) formed))

-- ---- versions

or_true : (a : Bool) → (a || true) ≡ true
or_true true = refl
or_true false = refl

or_false : (a : Bool) → (a || false) ≡ a
or_false true = refl
or_false false = refl

pub raised_more : (ls : List ℕ) (n leaf number : ℕ) (old now : List ℕ) → get_or ls n leaf ≡ leaf → n < length ls
    → leaf < length now
    → ((k : ℕ) → k < length old → slice_index now k ≡ cond (is_one_of (take n ls) k) (number + 1) (slice_index old k))
    → (k : ℕ) → k < length old
    → slice_index (set now leaf (number + 1)) k ≡ cond (is_one_of (take (n + 1) ls) k) (number + 1) (slice_index old k)
raised_more ls n leaf number old now at lt bound so_far k below =
    let more : is_one_of (take (n + 1) ls) k ≡ (is_one_of (take n ls) k || eqb k leaf) =
    list_any_more (λ m. eqb k m) ls n leaf lt ∙ ap (λ (l : ℕ). is_one_of (take n ls) k || eqb k l) at in
    elim (eqb k leaf) as (λ b. eqb k leaf ≡ b → slice_index (set now leaf (number + 1)) k ≡ cond (is_one_of (take (n + 1) ls) k) (number + 1) (slice_index old k)) [
      | true ↦ λ same.
          get_or-set_at now leaf k (number + 1) 0 (eqb-true k leaf same) bound
          ∙ sym (ap (λ (b : Bool). cond b (number + 1) (slice_index old k)) (more ∙ ap (λ (b : Bool). is_one_of (take n ls) k || b) same ∙ or_true (is_one_of (take n ls) k)))
      | false ↦ λ away.
          get_or-set_other now leaf k (number + 1) 0 (eqb-false k leaf away)
          ∙ so_far k below
          ∙ sym (ap (λ (b : Bool). cond b (number + 1) (slice_index old k)) (more ∙ ap (λ (b : Bool). is_one_of (take n ls) k || b) away ∙ or_false (is_one_of (take n ls) k)))
    ] refl

pub version_more : (es : List Entry) (n : ℕ) (e : Entry) (leaf : ℕ) → e ≡ get_or es n e → n < length es
    → version (take (n + 1) es) leaf ≡ cond (is_one_of e.core leaf) (n + 1) (version (take n es) leaf)
version_more es n e leaf is lt =
    let long : length (take n es) ≡ n = length-take-le n es (omega arith) in
    ap (λ (xs : List Entry). version xs leaf) (take_more es n e lt ∙ (λ j. take n es ++ sym is j ∷ []))
    ∙ version_push (take n es) e leaf
    ∙ ap (λ (k : ℕ). cond (is_one_of e.core leaf) (k + 1) (version (take n es) leaf)) long
