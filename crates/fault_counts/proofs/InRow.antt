-- What is told of an object after several calls.
use Rattle.std.proofs.Common.{ℕ, List, [], ◌++◌, Some, None, refl, sym, ap, ◌∙◌, append_assoc, append-nil}
use Rattle.std.specs.Option.{option_map}
use Rattle.fault_counts.specs.Told.{Told, Takes, TakesSome, Puts}

-- no byte was taken
pub takes_none : (left : Told) → Takes left left []
takes_none None = refl
takes_none (Some rest) = refl

-- the bytes of two takes were taken
pub takes_more :
    (old mid new : Told) (first second : List ℕ) → Takes old mid first → Takes mid new second →
    Takes old new (first ++ second)
takes_more old mid None first second h i = h ∙ ap (option_map (λ (rest : List ℕ). first ++ rest)) i
takes_more old mid (Some rest) first second h i =
    h ∙ ap (option_map (λ (left : List ℕ). first ++ left)) i ∙ ap Some (sym (append_assoc first second rest))

-- some bytes were taken, and then some more
pub takes_some_more : (old mid new : Told) → TakesSome old mid → TakesSome mid new → TakesSome old new
takes_some_more old mid new h i = (h.0 ++ i.0, takes_more old mid new h.0 i.0 h.1 i.1)

-- none is some
pub takes_some_none : (left : Told) → TakesSome left left
takes_some_none left = ([], takes_none left)

-- no byte was put
pub puts_none : (written : Told) → Puts written written []
puts_none None = refl
puts_none (Some written) = ap Some (sym (append-nil written))

-- the bytes of two puts were put
pub puts_more :
    (old mid new : Told) (first second : List ℕ) → Puts old mid first → Puts mid new second →
    Puts old new (first ++ second)
puts_more None mid new first second h i = i ∙ ap (option_map (λ (written : List ℕ). written ++ second)) h
puts_more (Some written) mid new first second h i =
    i ∙ ap (option_map (λ (bytes : List ℕ). bytes ++ second)) h ∙ ap Some (append_assoc written first second)
