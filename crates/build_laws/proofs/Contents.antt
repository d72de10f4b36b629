-- What the changes of a build make of a content.
use Rattle.std.proofs.Common.{◌≡◌, ℕ, ◌+◌, true, false, List, [], ◌∷◌, ◌++◌, length, Option, Some, None, sym, ap, ◌∙◌, refl, subst}
use Rattle.std.proofs.lemmas.Bool.{false≢true}
use Rattle.std.specs.List.{AllByRecursion}
use Rattle.mesh_data.specs.Mesh.{start}
use Rattle.oemm_blobs.specs.Content.{Content, blob_at, changed, is_same_key, with_change}
use Rattle.oemm_blobs.specs.Store.{IsAfterPrefix}
use Rattle.oemm_blobs.specs.declared.keys.Change.{Change}
use Rattle.oemm_blobs.specs.declared.keys.Key.{Key}
use Rattle.oemm_blobs.specs.declared.keys.Key.TheVariants as key
use Rattle.oemm_blobs.proofs.InTurn.{changed-push, spared}
use Rattle.mesh_sheets.specs.Sheets.{sheet}
use Rattle.stored_mesh.specs.Commits.{IsPut}
use Rattle.stored_mesh.specs.Stored.{Base, IsSound, IsUnbuilt, Spelling, spelled}
use Rattle.stored_mesh.proofs.Contents.{content_put}
use Rattle.store_spelling.specs.Bases.{IsBase}
use Rattle.build_laws.specs.Changes.{AreSheetPuts, IsIndexPut, is_aside}
use Rattle.build_laws.specs.Laid.{IsAsBefore, IsLaid}
use Rattle.build_laws.proofs.Laying.{laid_next, laid_none, sound_built}

-- ---- changes aside

no_index : (k : Key) → is_aside k ≡ true → is_same_key k key.Index ≡ false
no_index key.Index is = absurd (false≢true is)
no_index (key.Leaf l v) is = refl
no_index (key.Entry n) is = refl
no_index (key.Page n) is = refl
no_index (key.Run l p) is = refl

no_entry : (n : ℕ) (k : Key) → is_aside k ≡ true → is_same_key k (key.Entry n) ≡ false
no_entry n key.Index is = refl
no_entry n (key.Leaf l v) is = refl
no_entry n (key.Entry m) is = absurd (false≢true is)
no_entry n (key.Page m) is = refl
no_entry n (key.Run l p) is = refl

front_each : (P : Change → Type 0) (done rest : List Change) → AllByRecursion P (done ++ rest) → AllByRecursion P done
front_each P [] rest all = tt
front_each P (c ∷ done) rest all = (all.0, front_each P done rest all.1)

each_other : (k : Key) → ((j : Key) → is_aside j ≡ true → is_same_key j k ≡ false) → (cs : List Change)
    → AllByRecursion (λ (c : Change). is_aside c.key ≡ true) cs
    → AllByRecursion (λ (c : Change). is_same_key c.key k ≡ false) cs
each_other k apart [] all = tt
each_other k apart (c ∷ cs) all = (apart c.key all.0, each_other k apart cs all.1)

pub aside_before : (cs : List Change) (content left : Content) → AllByRecursion (λ (c : Change). is_aside c.key ≡ true) cs
    → IsAfterPrefix cs content left → IsAsBefore (blob_at content) (blob_at left)
aside_before cs content left all prefix =
    let done = front_each (λ (c : Change). is_aside c.key ≡ true) prefix.done prefix.rest
    (subst (AllByRecursion (λ (c : Change). is_aside c.key ≡ true)) (sym prefix.split) all) in
    let kept : (k : Key) → ((j : Key) → is_aside j ≡ true → is_same_key j k ≡ false)
    → blob_at left k ≡ blob_at content k = λ k apart.
    ap (λ (c : Content). blob_at c k) prefix.is ∙ spared prefix.done k content (each_other k apart prefix.done done) in
    record { index = kept key.Index no_index; entries = λ n. kept (key.Entry n) (no_entry n) }

pub sheets_aside : (spell : Spelling) (b : Base) (n : ℕ) (cs : List Change) → AreSheetPuts spell b n cs
    → AllByRecursion (λ (c : Change). is_aside c.key ≡ true) cs
sheets_aside spell b n [] puts = tt
sheets_aside spell b n (c ∷ cs) puts = (ap is_aside puts.0.at, sheets_aside spell b (n + 1) cs puts.1)

-- ---- puts

-- a change to bytes that spell something is a put of them
is_put : {X : Type 0} (spells : List ℕ → Option X) (x : X) (c : Change) (k : Key) (content : Content) → c.key ≡ k
    → spelled spells c.bytes ≡ Some x
    → (bytes : List ℕ) × IsPut (blob_at content) k bytes (blob_at (with_change c content)) × (spells bytes ≡ Some x)
is_put {X = X} spells x c k content at is =
    elim c.bytes as (λ o. c.bytes ≡ o → spelled spells o ≡ Some x
    → (bytes : List ℕ) × IsPut (blob_at content) k bytes (blob_at (with_change c content)) × (spells bytes ≡ Some x)) [
      | None ↦ λ _ e. let none : None ≡ Some x = e in absurd (cc)
      | Some bytes ↦ λ some e.
          let same : c ≡ record { key = k; bytes = Some bytes } = λ i. record { key = at i; bytes = some i } in (
            bytes,
            subst (λ (d : Change). IsPut (blob_at content) k bytes (blob_at (with_change d content))) (sym same)
                (content_put content k bytes),
            e,
          )
    ] refl is

-- the sheets from n on are laid behind those before them
lay : (spell : Spelling) (at : Content) (b : Base) (n : ℕ) (cs : List Change) (now : Content)
    → IsLaid spell (blob_at at) (blob_at now) b n → AreSheetPuts spell b n cs
    → IsLaid spell (blob_at at) (blob_at (changed cs now)) b (length b.index.cells)
lay spell at b n [] now laid puts = subst (IsLaid spell (blob_at at) (blob_at now) b) puts laid
lay spell at b n (c ∷ cs) now laid puts =
    let put = is_put spell.sheet (sheet b.index.cells (start b.soup) n) c (key.Leaf n 0) now puts.0.at puts.0.spells in
    lay spell at b (n + 1) cs (with_change c now)
    (laid_next spell (blob_at at) (blob_at now) (blob_at (with_change c now)) b n put.0 laid put.1 put.2) puts.1

pub all_sound : (spell : Spelling) (b : Base) (sheets : List Change) (index : Change) (content : Content)
    → IsUnbuilt (blob_at content) → IsBase b → AreSheetPuts spell b 0 sheets → IsIndexPut spell b index
    → IsSound spell (blob_at (changed (sheets ++ index ∷ []) content)) b []
all_sound spell b sheets index content unbuilt base puts last =
    let now = changed sheets content in
    let put = is_put spell.index b.index index key.Index now last.at last.spells in
    subst (λ (c : Content). IsSound spell (blob_at c) b []) (sym (changed-push sheets index content))
    (sound_built spell (blob_at content) (blob_at now) (blob_at (with_change index now)) b put.0 unbuilt base
    (lay spell content b 0 sheets content (laid_none spell (blob_at content) b) puts) put.1 put.2)
