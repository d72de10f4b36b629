-- What is told after a change.
use Rattle.std.proofs.Common.{◌≡◌, Option, Some, None, refl, ap, subst}
use Rattle.std.specs.Option.{option_map}
use Rattle.oemm_blobs.specs.Content.{Content}
use Rattle.oemm_blobs.specs.Store.{IfTold}

inside : {m n : Content} → Some m ≡ Some n → m ≡ n
inside e = cc

module _ (P : Content → Type 0) where
  pub told_after :
      (told : Option Content) (change : Content → Content) → IfTold told (λ m. P (change m)) →
      IfTold (option_map change told) P
  told_after None change has m is = absurd (nothing is)
    where
      nothing : None ≡ Some m → ⊥
      nothing e = cc
  told_after (Some n) change has m is = subst P (inside is) (has n refl)

  pub told_before :
      (told : Option Content) (change : Content → Content) → IfTold (option_map change told) P →
      IfTold told (λ m. P (change m))
  told_before told change has m is = has (change m) (ap (option_map change) is)

  pub told_weaker :
      (Q : Content → Type 0) (told : Option Content) → ((m : Content) → P m → Q m) → IfTold told P → IfTold told Q
  told_weaker Q told from has m is = from m (has m is)
