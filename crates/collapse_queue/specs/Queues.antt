-- A queue of stamped candidates: its items, ascending, and the present stamps of names.
use Rattle.std.specs.Prelude.{◌≡◌, ℕ, ◌<◌, nat_lt, true, not, List, [], ◌∷◌, map, filter, find, length, Option, if◌then◌else◌, ◌⊎◌, refl}
use Rattle.std.specs.Coded.{Coded, code_by, coded×, coded_ℕ, coded_list}
use Rattle.std.specs.FinMap as finite
use Rattle.std.specs.List.{list_any}
use Rattle.std.specs.Ordering.{nat_cmp, is_le}
use Rattle.std.specs.declared.cmp.Reverse.{Reverse}
use Rattle.oemm_lists.specs.Ascending.{inserted}
use Rattle.collapse_queue.specs.declared.candidate.Candidate.{Candidate}
use Rattle.collapse_queue.specs.Candidates.{candidate_cmp, candidate_code, is_live, behind}

pub record Queued : Type 0 where
  pub room : ℕ
  pub items : List Candidate
  pub stamps : finite.FinMap nat_cmp ℕ

-- the stamp 0 for each name
abbrev pub no_stamps : List ℕ → finite.FinMap nat_cmp ℕ
no_stamps names = finite.from_entries (map (λ n. (n, 0)) names)

-- there is room, or some item isn't live
abbrev pub HasRoom : Queued → Type 0
HasRoom q = (length q.items < q.room) ⊎ (list_any (λ c. not (is_live q.stamps c)) q.items ≡ true)

-- the items for which there is room: all, or else those that are live
abbrev pub kept : Queued → List Candidate
kept q = if nat_lt (length q.items) q.room then q.items else filter (is_live q.stamps) q.items

-- the same in a heap
abbrev pub kept_in : ℕ → finite.FinMap nat_cmp ℕ → List (Reverse Candidate) → List (Reverse Candidate)
kept_in room stamps rs = if nat_lt (length rs) room then rs else filter (λ r. is_live stamps r.0) rs

-- the queue with one item more
abbrev pub pushed : Candidate → Queued → Queued
pushed c q = record q { items = inserted candidate_cmp c (kept q) }

-- the queue with another stamp of a name
abbrev pub restamped : ℕ → ℕ → Queued → Queued
restamped u stamp q = record q { stamps = finite.insert q.stamps u stamp }

-- the first live item
abbrev pub least_live : Queued → Option Candidate
least_live q = find (is_live q.stamps) q.items

-- the queue without the items up to the first live one
abbrev pub popped : Queued → Queued
popped q = record q { items = behind (is_live q.stamps) q.items }

-- it is one of these
abbrev pub IsIn : Candidate → List Candidate → Type 0
IsIn c [] = ⊥
IsIn c (d ∷ ds) = (c ≡ d) ⊎ IsIn c ds

-- the queue has the item, and it is live
pub record IsLive (q : Queued) (c : Candidate) : Type 0 where
  pub inside : IsIn c q.items
  pub live : is_live q.stamps c ≡ true

-- a live item than which none that is live is less
pub record IsLeastLive (q : Queued) (c : Candidate) : Type 0 where
  pub itself : IsLive q c
  pub least : (d : Candidate) → IsLive q d → is_le (candidate_cmp c d) ≡ true

-- none is live
abbrev pub HasNoneLive : Queued → Type 0
HasNoneLive q = (d : Candidate) → IsLive q d → ⊥

abbrev pub queued_code : Coded Queued
queued_code =
    code_by (ℕ × (List Candidate × finite.FinMap nat_cmp ℕ))
    (coded× coded_ℕ (coded× (coded_list candidate_code) (finite.code coded_ℕ coded_ℕ)))
    (λ q. (q.room, (q.items, q.stamps)))
    (λ p. record { room = p.0; items = p.1.0; stamps = p.1.1 })
    (λ _. refl)
