-- Stamps in an ordered map, seen as a finite map.
use Rattle.std.proofs.Common.{◌≡◌, ℕ, Bool, true, false, cond, List, [], ◌∷◌, ◌++◌, map, sym, ap, ◌∙◌, refl, Option, Some}
use Rattle.std.specs.BTreeMap.{is_at}
use Rattle.std.specs.Cmp.{nat_cmp_total, eq_by_cmp_equiv}
use Rattle.std.specs.FinMap as finite
use Rattle.std.specs.FinMap.{nat_cmp-IsAntisymmetric}
use Rattle.std.specs.FinMap.Entries.{find}
use Rattle.std.specs.Map.{lookup}
use Rattle.std.specs.Ordering.{nat_cmp, eq_by_cmp}
use Rattle.collapse_queue.specs.Queues.{no_stamps}

abbrev pub Entries : Type 0
Entries = List (ℕ × ℕ)

-- what an ordered map has at a name
abbrev pub stamp_at : Entries → ℕ → Option ℕ
stamp_at es v = lookup (is_at (nat_cmp v)) es

find_is : (es : Entries) (v : ℕ) → find nat_cmp v es ≡ stamp_at es v
find_is [] v = refl
find_is (e ∷ es) v = ap (cond (is_at (nat_cmp v) e.0) (Some e.1)) (find_is es v)

-- what the map that the entries make has at a name
pub get_stamp : (es : Entries) (v : ℕ) → finite.get (finite.from_entries {R = nat_cmp} es) v ≡ stamp_at es v
get_stamp es v = finite.get-from_entries nat_cmp_total es v ∙ find_is es v

-- entries that differ at one name make maps that differ there
pub one_given : (es fs : Entries) (v x : ℕ)
    → ((w : ℕ) → stamp_at fs w ≡ cond (is_at (nat_cmp v) w) (Some x) (stamp_at es w))
    → finite.from_entries {R = nat_cmp} fs ≡ finite.insert (finite.from_entries es) v x
one_given es fs v x h = finite.same_map nat_cmp_total nat_cmp-IsAntisymmetric _ _ (λ w.
    get_stamp fs w ∙ h w ∙ ap (λ (b : Bool). cond b (Some x) (stamp_at es w)) ((eq_by_cmp_equiv nat_cmp_total).symm v w)
    ∙ sym (finite.get-insert nat_cmp_total (finite.from_entries es) v x w
    ∙ ap (cond (eq_by_cmp nat_cmp w v) (Some x)) (get_stamp es w)))

abbrev zeros : List ℕ → Entries
zeros ns = map (λ n. (n, 0)) ns

find_zero : (ns : List ℕ) (n w : ℕ)
    → find nat_cmp w (zeros (ns ++ n ∷ [])) ≡ cond (eq_by_cmp nat_cmp w n) (Some 0) (find nat_cmp w (zeros ns))
find_zero [] n w = refl
find_zero (m ∷ ns) n w =
    ap (cond (eq_by_cmp nat_cmp w m) (Some 0)) (find_zero ns n w)
    ∙ elim (eq_by_cmp nat_cmp w m) as
    (λ b. cond b (Some 0) (cond (eq_by_cmp nat_cmp w n) (Some 0) (find nat_cmp w (zeros ns)))
    ≡ cond (eq_by_cmp nat_cmp w n) (Some 0) (cond b (Some 0) (find nat_cmp w (zeros ns)))) [
      | true ↦ elim (eq_by_cmp nat_cmp w n) as (λ b. ◌≡◌ {A = Option ℕ} (Some 0) (cond b (Some 0) (Some 0))) [
        | true ↦
            refl
        | false ↦ refl
      ]
      | false ↦ refl
    ]

-- one name more
pub zero_more : (ns : List ℕ) (n : ℕ) → finite.insert (no_stamps ns) n 0 ≡ no_stamps (ns ++ n ∷ [])
zero_more ns n = finite.same_map nat_cmp_total nat_cmp-IsAntisymmetric _ _ (λ w.
    finite.get-insert nat_cmp_total (no_stamps ns) n 0 w
    ∙ ap (cond (eq_by_cmp nat_cmp w n) (Some 0)) (finite.get-from_entries nat_cmp_total (zeros ns) w)
    ∙ sym (finite.get-from_entries nat_cmp_total (zeros (ns ++ n ∷ [])) w ∙ find_zero ns n w))
