-- Replies are read as they are spelled.
use Rattle.std.proofs.Common.{◌≡◌, ℕ, ◌<◌, ◌^◌, ◌++◌, List, [], ◌∷◌, length, true, Ok, refl, arith}
use Rattle.std.specs.List.{flat_map, AllByRecursion}
use Rattle.mesh_data.specs.declared.edits.Step.{Step}
use Rattle.mesh_data.specs.declared.edits.Reply.{Reply}
use Rattle.mesh_data.specs.declared.edits.Reply.TheVariants.{Unheld, Frozen, Same, Apart, Border, Link, Closed, Folds, Dear, Edge, Outside, Done, DoneAt, Simplified}
use Rattle.byte_grammar.specs.Reader.{choose}
use Rattle.byte_grammar.specs.Numbers.{u32_bytes}
use Rattle.byte_grammar.specs.Keeps.{Keeps, Always}
use Rattle.byte_grammar.proofs.Spells.{Spells, Spells-then, Spells-last, Spells-unit, Spells-many, Keeps-parts}
use Rattle.byte_grammar.proofs.NumberSpells.{Spells-u8, Spells-u32, Spells-i128}
use Rattle.byte_grammar.proofs.Variants.{Makes, Makes-then, Makes-last, Makes-one, none_fields, made_fields, AreRows, Spells-tagged}
use Rattle.leaf_codec.specs.Replies.{step_bytes, reply_tag, reply_fields, reply_bytes, FitsStep, FitsReply, step, edge, simplified, reply_rows, reply}
use Rattle.geometry_bytes.proofs.GeometrySpells.{Spells-face}

Spells-step : Spells step step_bytes FitsStep
unfolding step step_bytes
Spells-step =
    Spells-then Spells-u32 (λ t. t.u) λ u _.
    Spells-then Spells-u32 (λ t. t.v) λ v _.
    Spells-last Spells-i128 (λ t. t.cost) (λ cost. record { u = u; v = v; cost = cost })
    (λ cost _. (((tt, refl), refl), refl)) (λ t e _. rw (← e.0.1, ← e.1) refl)

Makes-edge : Makes (λ (t : ℕ × ℕ). Edge t.0 t.1) edge (λ t. u32_bytes t.0 ++ u32_bytes t.1)
    (λ t. Always × ((t.0 < 2 ^ 32) × (t.1 < 2 ^ 32)))
unfolding edge
Makes-edge =
    Makes-then Spells-u32 (λ t. t.0) λ c _.
    Makes-last Spells-u32 (λ t. t.1) (λ d. (c, d)) (λ d _. ((tt, refl), refl)) (λ t e _. rw (← e.1) refl)

Makes-simplified : Makes (λ (t : List Step × ℕ). Simplified t.0 t.1) simplified
    (λ t. u32_bytes (length t.0) ++ (flat_map step_bytes t.0 ++ u32_bytes t.1))
    (λ t. Always ×
    ((length t.0 < 2 ^ 32) ×
    (((length t.0 ≡ length t.0) × Keeps (λ before s. FitsStep s × (true ≡ true)) [] t.0) × (t.1 < 2 ^ 32))))
unfolding simplified
Makes-simplified =
    Makes-then Spells-u32 (λ t. length t.0) λ n _.
    Makes-then (Spells-many (λ before. Spells-unit Spells-step (λ s. true)) n) (λ t. t.0) λ steps are_steps.
    Makes-last Spells-u32 (λ t. t.1) (λ left. (steps, left)) (λ left _. (((tt, are_steps.0), refl), refl))
    (λ t e _. rw (← e.1) refl)

steps_fit : (ss : List Step) → Keeps (λ before s. FitsStep s × (true ≡ true)) [] ss → AllByRecursion FitsStep ss
steps_fit ss h = (Keeps-parts FitsStep (λ before s. true ≡ true) ss [] h).0

steps_keep : (ss before : List Step) → AllByRecursion FitsStep ss
    → Keeps (λ before s. FitsStep s × (true ≡ true)) before ss
steps_keep [] before h = tt
steps_keep (s ∷ ss) before h = ((h.0, refl), steps_keep ss (before ++ s ∷ []) h.1)

reply_are : AreRows reply_tag reply_fields FitsReply reply_rows
reply_are = (
  made_fields (Makes-one Spells-u32 (λ v. Unheld v)) reply_tag reply_fields FitsReply 1 (λ t h. (refl, (refl, h))),
  (
    made_fields (Makes-one Spells-u32 (λ v. Frozen v)) reply_tag reply_fields FitsReply 2 (λ t h. (refl, (refl, h))),
    (
      made_fields (Makes-one Spells-u32 (λ w. Link w)) reply_tag reply_fields FitsReply 3 (λ t h. (refl, (refl, h))),
      (
        none_fields Same reply_tag reply_fields FitsReply 4 refl refl tt,
        (
          none_fields Apart reply_tag reply_fields FitsReply 5 refl refl tt,
          (
            none_fields Border reply_tag reply_fields FitsReply 6 refl refl tt,
            (
              none_fields Closed reply_tag reply_fields FitsReply 7 refl refl tt,
              (
                none_fields Outside reply_tag reply_fields FitsReply 8 refl refl tt,
                (
                  none_fields Done reply_tag reply_fields FitsReply 9 refl refl tt,
                  (
                    made_fields (Makes-one Spells-face (λ t. Folds t)) reply_tag reply_fields FitsReply 10
                        (λ t h. (refl, (refl, h))),
                    (
                      made_fields (Makes-one Spells-i128 (λ cost. Dear cost)) reply_tag reply_fields FitsReply 11
                          (λ t h. (refl, (refl, h))),
                      (
                        made_fields (Makes-one Spells-i128 (λ cost. DoneAt cost)) reply_tag reply_fields FitsReply 12
                            (λ t h. (refl, (refl, h))),
                        (
                          made_fields Makes-edge reply_tag reply_fields FitsReply 13 (λ t h. (refl, (refl, h.1))),
                          (
                            made_fields Makes-simplified reply_tag reply_fields FitsReply 14
                                (λ t h. (refl, (refl, (h.1.0, ((steps_fit t.0 h.1.1.0.1), h.1.1.1))))),
                            tt,
                          ),
                        ),
                      ),
                    ),
                  ),
                ),
              ),
            ),
          ),
        ),
      ),
    ),
  ),
)

small_tag : (r : Reply) → reply_tag r < 2 ^ 8
small_tag (Unheld v) = omega arith
small_tag (Frozen v) = omega arith
small_tag (Link w) = omega arith
small_tag Same = omega arith
small_tag Apart = omega arith
small_tag Border = omega arith
small_tag Closed = omega arith
small_tag Outside = omega arith
small_tag Done = omega arith
small_tag (Folds t) = omega arith
small_tag (Dear cost) = omega arith
small_tag (DoneAt cost) = omega arith
small_tag (Edge c d) = omega arith
small_tag (Simplified steps left) = omega arith

reply_again : (r : Reply) (rest : List ℕ) → FitsReply r
    → choose (reply_tag r) reply_rows (reply_fields r ++ rest) ≡ Ok (r, rest)
reply_again (Unheld v) rest h = (Makes-one Spells-u32 (λ v. Unheld v)).again v rest h
reply_again (Frozen v) rest h = (Makes-one Spells-u32 (λ v. Frozen v)).again v rest h
reply_again (Link w) rest h = (Makes-one Spells-u32 (λ w. Link w)).again w rest h
reply_again (Folds t) rest h = (Makes-one Spells-face (λ t. Folds t)).again t rest h
reply_again (Dear cost) rest h = (Makes-one Spells-i128 (λ cost. Dear cost)).again cost rest h
reply_again (DoneAt cost) rest h = (Makes-one Spells-i128 (λ cost. DoneAt cost)).again cost rest h
reply_again Same rest h = refl
reply_again Apart rest h = refl
reply_again Border rest h = refl
reply_again Closed rest h = refl
reply_again Outside rest h = refl
reply_again Done rest h = refl
reply_again (Edge c d) rest h = Makes-edge.again (c, d) rest (tt, h)
reply_again (Simplified steps left) rest h =
    Makes-simplified.again (steps, left) rest (tt, (h.0, ((refl, steps_keep steps [] h.1.0), h.1.1)))

pub Spells-reply : Spells reply reply_bytes FitsReply
unfolding reply reply_bytes
Spells-reply = Spells-tagged Spells-u8 reply_tag reply_fields FitsReply reply_rows reply_are small_tag reply_again
