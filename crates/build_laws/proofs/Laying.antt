-- The puts of a build, one by one.
use Rattle.std.proofs.Common.{◌≡◌, ◌≢◌, ℕ, ◌+◌, Bool, true, false, List, [], length, Some, ap, ◌∙◌, refl, subst, arith, inl, inr}
use Rattle.std.proofs.lemmas.Bool.{cases_lt, false≢true}
use Rattle.mesh_data.specs.Mesh.{start}
use Rattle.oemm_blobs.specs.declared.keys.Key.{Key}
use Rattle.oemm_blobs.specs.declared.keys.Key.TheVariants as key
use Rattle.mesh_sheets.specs.Sheets.{sheet}
use Rattle.stored_mesh.specs.Commits.{IsPut}
use Rattle.stored_mesh.specs.Stored.{Base, BytesAt, HasSheets, IsSound, IsUnbuilt, Spelling, spelled}
use Rattle.store_spelling.specs.Bases.{IsBase}
use Rattle.build_laws.specs.Laid.{IsAsBefore, IsLaid, IsSameButDrafts}

abbrev leaf_in : Key → ℕ
leaf_in (key.Leaf leaf version) = leaf
leaf_in _ = 0

abbrev is_leaf : Key → Bool
is_leaf (key.Leaf leaf version) = true
is_leaf _ = false

abbrev is_index : Key → Bool
is_index key.Index = true
is_index _ = false

pub laid_none : (spell : Spelling) (at : BytesAt) (b : Base) → IsLaid spell at at b 0
laid_none spell at b =
    record { before = record { index = refl; entries = λ n. refl }; there = λ leaf lt. absurd (omega (arith, lt)) }

pub laid_next : (spell : Spelling) (at now new : BytesAt) (b : Base) (n : ℕ) (bytes : List ℕ) → IsLaid spell at now b n
    → IsPut now (key.Leaf n 0) bytes new → spell.sheet bytes ≡ Some (sheet b.index.cells (start b.soup) n)
    → IsLaid spell at new b (n + 1)
laid_next spell at now new b n bytes laid put is = record {
  before = record {
    index = put.others key.Index (λ e. false≢true (ap is_leaf e)) ∙ laid.before.index;
    entries = λ k. put.others (key.Entry k) (λ e. false≢true (ap is_leaf e)) ∙ laid.before.entries k;
  };
  there = λ leaf lt. elim (cases_lt leaf n) [
    | inl below ↦
        let other : key.Leaf leaf 0 ≢ key.Leaf n 0 = λ e. let same : leaf ≡ n = ap leaf_in e in absurd (omega (arith, same, below)) in
        ap (spelled spell.sheet) (put.others (key.Leaf leaf 0) other) ∙ laid.there leaf below
    | inr above ↦
        let same : n ≡ leaf = omega (arith, lt, above) in
        subst (λ (l : ℕ). spelled spell.sheet (new (key.Leaf l 0)) ≡ Some (sheet b.index.cells (start b.soup) l)) same
        (ap (spelled spell.sheet) put.there ∙ is)
  ];
}

pub laid_still : (spell : Spelling) (at now new : BytesAt) (b : Base) (n : ℕ) → IsLaid spell at now b n
    → IsSameButDrafts now new → IsLaid spell at new b n
laid_still spell at now new b n laid same = record {
  before = record {
    index = same key.Index (λ never. never) ∙ laid.before.index;
    entries = λ k. same (key.Entry k) (λ never. never) ∙ laid.before.entries k;
  };
  there = λ leaf lt. ap (spelled spell.sheet) (same (key.Leaf leaf 0) (λ never. never)) ∙ laid.there leaf lt;
}

pub unbuilt_still : (at now : BytesAt) → IsUnbuilt at → IsAsBefore at now → IsUnbuilt now
unbuilt_still at now unbuilt before = (before.index ∙ unbuilt.0, λ n. before.entries n ∙ unbuilt.1 n)

pub sound_built : (spell : Spelling) (at now new : BytesAt) (b : Base) (bytes : List ℕ) → IsUnbuilt at → IsBase b
    → IsLaid spell at now b (length b.index.cells) → IsPut now key.Index bytes new → spell.index bytes ≡ Some b.index
    → IsSound spell new b []
sound_built spell at now new b bytes unbuilt base laid put is =
    let sheets : HasSheets spell new b (start b.soup) (λ _. 0) = λ leaf lt.
    ap (spelled spell.sheet) (put.others (key.Leaf leaf 0) (λ e. false≢true (ap is_index e))) ∙ laid.there leaf lt in
    record {
      stored = record {
        built = record {
          index = ap (spelled spell.index) put.there ∙ is;
          grid = base.grid;
          few_points = base.few_points;
          few_faces = base.few_faces;
          cells = base.cells;
          good = base.good;
          sheets = sheets;
        };
        few = omega arith;
        entries = λ n d lt. absurd (omega (arith, lt));
        numbered = tt;
        given = refl;
        sheets = sheets;
      };
      ends = λ n le.
          put.others (key.Entry n) (λ e. false≢true (ap is_index e)) ∙ laid.before.entries n ∙ unbuilt.1 n;
    }
