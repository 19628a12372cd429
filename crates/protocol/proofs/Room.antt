-- At most 682 words are on the wire.
use Rattle.std.proofs.Common.{◌≡◌, ℕ, suc, ◌+◌, ◌≤◌, Bool, true, false, cond, not, ◌&&◌, eqb, List, [], ◌∷◌, ◌++◌, length, Some, None, Option, refl, ap, ◌∙◌, arith}
use Rattle.std.proofs.lemmas.Bool.{leb-false}
use Rattle.records.specs.Rules.{Rules}
use Rattle.protocol.specs.Effects.{Answers, Carries, Counts, Decides, Discards, Effect, Flags, Hears, Joins, Replies}
use Rattle.protocol.specs.Effects.{Sends, Starts, State, Works, act}
use Rattle.protocol.specs.Histories.{History, new_turn, tell}
use Rattle.protocol.specs.Marks.{ask_label, in_cohort, need}
use Rattle.protocol.specs.Rounds.{able, has_answered, says_yes}
use Rattle.protocol.specs.Rows.{Answered, Back, Free, Gathering, Phase, Round, Save, held}
use Rattle.protocol.specs.Runs.{Step, World, after, after_step, run, told_by}
use Rattle.protocol.specs.Turns.{Checkpoint, Deliver, Do, Plan, Refusal, Restart, Rollback, Send, SetWilling}
use Rattle.protocol.specs.Turns.{Stop, Turn, Work, WrongTable, asked_when, decided_when, delivered, heard_when}
use Rattle.protocol.specs.Turns.{most_words, nobody_below, refuse_if, settled, settled_by, taken_off, turn_plan}
use Rattle.protocol.specs.Wire.{Ask, Decision, Message, Note, Reply, Word, earliest, goes, is_control, is_word, post}
use Rattle.protocol.specs.Wire.{posts, tally, without}
use Rattle.protocol.proofs.Wires.{tally-append}
use Rattle.protocol.proofs.Carrying.{tally_none}

pub length_is : (w : List Message) → length w ≡ tally is_word w + tally is_control w
length_is [] = refl
length_is (post p q (Word l x) ∷ w) = let ih = length_is w in omega arith
length_is (post p q (Ask r l) ∷ w) = let ih = length_is w in omega arith
length_is (post p q (Reply y) ∷ w) = let ih = length_is w in omega arith
length_is (post p q (Decision r v) ∷ w) = let ih = length_is w in omega arith

without_le : (h : Message → ℕ) (p q : ℕ) (w : List Message) → tally h (without p q w) ≤ tally h w
without_le h p q [] = omega arith
without_le h p q (m ∷ w) = let ih = without_le h p q w in
    elim (goes p q m) as (λ t. tally h (cond t w (m ∷ without p q w)) ≤ h m + tally h w) [
      | true ↦ omega arith
      | false ↦ omega arith
    ]

abbrev sends : Effect → ℕ
sends (Works p w) = 0
sends (Sends p q w) = 1
sends (Flags p u l i b) = 0
sends (Hears p q l w) = 0
sends (Discards p q) = 0
sends (Replies p q y) = 0
sends (Starts r p) = 0
sends (Joins r p q) = 0
sends (Counts p q y) = 0
sends (Answers r p) = 0
sends (Decides r p) = 0
sends (Carries r v p) = 0

abbrev all_sends : List Effect → ℕ
all_sends [] = 0
all_sends (d ∷ ds) = sends d + all_sends ds

more : (w v : List Message) (k : ℕ) → tally is_word v ≡ k → tally is_word (w ++ v) ≡ tally is_word w + k
more w v k e = tally-append is_word w v ∙ ap (λ x. tally is_word w + x) e

no_words : (n : ℕ) (c : ℕ → Bool) (p : ℕ) (f : ℕ → Note) → ((i : ℕ) → is_word (post p i (f i)) ≡ 0) →
    tally is_word (posts n c (λ b. post p b (f b))) ≡ 0
no_words n c p f e = tally_none is_word n c (λ b. post p b (f b)) e

module _ {A : Type 0} (n : ℕ) (rules : Rules A) (wear : ℕ) where
  effect_words : (s : State A) (d : Effect) →
      tally is_word (act n rules wear s d).wire ≤ tally is_word s.wire + sends d
  effect_words s (Works p w) = omega arith
  effect_words s (Sends p q w) = let e = more s.wire (post p q (Word (suc (s.rows p).count) w) ∷ []) 1 refl in
      omega arith
  effect_words s (Flags p u l i b) = omega arith
  effect_words s (Hears p q l w) = let e = without_le is_word p q s.wire in omega arith
  effect_words s (Discards p q) = let e = without_le is_word p q s.wire in omega arith
  effect_words s (Replies p q y) = let e = without_le is_word p q s.wire in
      let f = more (without p q s.wire) (post q p (Reply y) ∷ []) 0 refl in omega arith
  effect_words s (Starts r p) = let f =
      more s.wire (posts n (in_cohort n r p (s.rows p).marks)
      (λ b. post p b (Ask r (ask_label r (s.rows p).marks b)))) 0
      (no_words n _ p (λ b. Ask r (ask_label r (s.rows p).marks b)) (λ _. refl)) in omega arith
  effect_words s (Joins r p q) = let e = without_le is_word p q s.wire in
      let f = more (without p q s.wire)
      (posts n (in_cohort n r q (s.rows q).marks) (λ b. post q b (Ask r (ask_label r (s.rows q).marks b)))) 0
      (no_words n _ q (λ b. Ask r (ask_label r (s.rows q).marks b)) (λ _. refl)) in omega arith
  effect_words s (Counts p q y) = let e = without_le is_word p q s.wire in omega arith
  effect_words s (Answers r p) = let f =
      more s.wire (post p (s.rows p).role.asker (Reply (s.rows p).role.answer) ∷ []) 0 refl in omega arith
  effect_words s (Decides r p) = omega arith
  effect_words s (Carries r v p) = let f =
      more s.wire (posts n (s.rows p).role.cohort (λ b. post p b (Decision r v))) 0
      (no_words n _ p (λ b. Decision r v) (λ _. refl)) in omega arith

  effects_words : (s : State A) (τ : History) (ds : List Effect) →
      tally is_word (told_by n rules wear s τ ds).state.wire ≤ tally is_word s.wire + all_sends ds
  effects_words s τ [] = omega arith
  effects_words s τ (d ∷ ds) = let e = effect_words s d in
      let f = effects_words (act n rules wear s d) (tell s τ d) ds in omega arith

  settle_none : (f : Phase) (i o v : Bool) (p : ℕ) → all_sends (settled_by f i o v p) ≡ 0
  settle_none Free i o v p = refl
  settle_none (Answered r) i o v p = refl
  settle_none (Gathering r) false o v p = refl
  settle_none (Gathering r) true true v p = refl
  settle_none (Gathering r) true false v p = refl

  settled_none : (s : State A) (p : ℕ) → all_sends (settled n s p) ≡ 0
  settled_none s p = settle_none (s.rows p).role.phase (nobody_below n (s.rows p).role.awaited)
      (eqb (s.rows p).role.asker p) (s.rows p).role.answer p

  heard_none : (b : Bool) (p q l w : ℕ) → all_sends (heard_when n rules wear b p q l w) ≡ 0
  heard_none true p q l w = refl
  heard_none false p q l w = refl

  asked_none : (h d y : Bool) (s : State A) (p q : ℕ) (r : Round) →
      all_sends (asked_when n rules wear h d y s p q r) ≡ 0
  asked_none true d y s p q r = refl
  asked_none false true y s p q r = let e = settled_none (act n rules wear s (Joins r p q)) q in omega arith
  asked_none false false y s p q r = refl

  obeyed_none : (b : Bool) (p q : ℕ) (r : Round) (v : Bool) → all_sends (decided_when n rules wear b p q r v) ≡ 0
  obeyed_none true p q r v = refl
  obeyed_none false p q r v = refl

  note_none : (s : State A) (p q : ℕ) (x : Note) → all_sends (delivered n rules wear s p q x) ≡ 0
  note_none s p q (Word l w) = heard_none (s.rows q).lost p q l w
  note_none s p q (Ask r l) =
      asked_none (held (s.rows q).role.phase)
      (need r (s.rows q).marks p l && able r (s.rows q) s.store.spare)
      (says_yes r (s.rows q) (need r (s.rows q).marks p l)) s p q r
  note_none s p q (Reply y) = let e = settled_none (act n rules wear s (Counts p q y)) q in omega arith
  note_none s p q (Decision r v) = obeyed_none (has_answered r (s.rows q).role.phase) p q r v

  module _ (s : State A) (τ : History) (few : tally is_word s.wire ≤ most_words) where
    pub record Few (o : Plan) : Type 0 where
      pub few' : tally is_word (after n rules wear s τ o).state.wire ≤ most_words

    skip : (b : Bool) (k : Refusal) (o : Plan) → (b ≡ false → Few o) → Few (refuse_if b k o)
    skip true k o h = record { few' = few }
    skip false k o h = record { few' = (h refl).few' }

    plain : (k : Option Note) (ds : List Effect) → all_sends ds ≡ 0 → Few (Do k ds)
    plain k ds e = record { few' = (let f = effects_words s τ ds in omega arith) }

    took : (p q : ℕ) (o : Option Message) → Few (taken_off n rules wear s p q o)
    took p q None = record { few' = few }
    took p q (Some (post a b x)) = plain _ _ (note_none s p q x)

    pub few_turn : (t : Turn) → Few (turn_plan n rules wear s t)
    few_turn (Work p w) = skip _ _ _ (λ _. skip _ _ _ (λ _. skip _ _ _ (λ _. plain _ _ refl)))
    few_turn (Send p q w) = skip _ _ _
        (λ _. skip _ _ _ (λ _. skip _ _ _ (λ _. skip _ _ _ (λ _. skip _ _ _ (λ _. skip _ _ _ (λ _. skip _ _ _ (λ e.
        record {
          few' = (let f = effect_words s (Sends p q w) in let g = leb-false most_words (tally is_word s.wire) e in
              omega arith);
        })))))))
    few_turn (Deliver p q) = skip _ _ _ (λ _. skip _ _ _ (λ _. skip _ _ _ (λ _. took p q (earliest p q s.wire))))
    few_turn (Checkpoint p) = skip _ _ _
        (λ _. skip _ _ _ (λ _. skip _ _ _
        (λ _. skip _ _ _ (λ _. skip _ _ _
        (λ _. skip _ _ _ (λ _. plain _ _ (let e = settled_none (act n rules wear s (Starts Save p)) p in
        omega arith)))))))
    few_turn (Rollback p) = skip _ _ _
        (λ _. skip _ _ _ (λ _. skip _ _ _
        (λ _. skip _ _ _ (λ _. plain _ _ (let e = settled_none (act n rules wear s (Starts Back p)) p in
        omega arith)))))
    few_turn (Stop p) = skip _ _ _ (λ _. skip _ _ _ (λ _. plain _ _ refl))
    few_turn (Restart p) = skip _ _ _ (λ _. skip _ _ _ (λ _. plain _ _ refl))
    few_turn (SetWilling p b) = skip _ _ _ (λ _. skip _ _ _ (λ _. plain _ _ refl))

  pub few_step : (w : World A) (step : Step) → tally is_word w.state.wire ≤ most_words →
      tally is_word (after_step n rules wear w step).state.wire ≤ most_words
  few_step w step h = (skip w.state (new_turn w.history) h (not (eqb step.records n)) WrongTable
      (turn_plan n rules wear w.state step.turn)
      (λ _. few_turn w.state (new_turn w.history) h step.turn)).few'

  pub few_run : (w : World A) → tally is_word w.state.wire ≤ most_words → (steps : List Step) →
      tally is_word (run n rules wear w steps).state.wire ≤ most_words
  few_run w h [] = h
  few_run w h (step ∷ steps) = few_run (after_step n rules wear w step) (few_step w step h) steps
