-- What holds after every deed.
use Rattle.std.proofs.Common.{◌≡◌, ℕ, ◌+◌, ◌<◌, ◌≤◌, Bool, true, false, cond, not, ◌&&◌, ◌||◌, eqb, ltb, ◌⊎◌, List, [], ◌∷◌, ◌++◌, length, Some, None, MatchBool}
use Rattle.std.specs.List.{AllByRecursion}
use Rattle.records.specs.Rules.{Rules}
use Rattle.records.specs.Stories.{Story}
use Rattle.store.specs.Meaning.{Kept}
use Rattle.protocol.specs.Effects.{State}
use Rattle.protocol.specs.Histories.{Asking, History, Settled, Stage, member, present}
use Rattle.protocol.specs.Rows.{Answered, Back, Free, Gathering, Marks, Phase, Role, Round, Row, Save, gathering}
use Rattle.protocol.specs.Rows.{held}
use Rattle.protocol.specs.Wire.{Ask, Decision, Message, Reply, Word, post, tally}
use Rattle.protocol.proofs.Labels.{In, NoLabelOrphan, heard_from, last, made, sent_to}
use Rattle.protocol.proofs.Stored.{stored_at}
use Rattle.protocol.proofs.Segments.{Marked, Unsent, saving}
use Rattle.protocol.proofs.Wires.{Flow, Flushed, asks, decisions, replies, word_label, words}

abbrev pub backing : Phase → Bool
backing Free = false
backing (Gathering Save) = false
backing (Gathering Back) = true
backing (Answered Save) = false
backing (Answered Back) = true

-- a member of an agreed saving round that is not yet told; of an agreed going back
abbrev pub keeps : Stage → Phase → Bool
keeps (Asking r s) f = false
keeps (Settled Save true) f = saving f
keeps (Settled Save false) f = false
keeps (Settled Back v) f = false

abbrev pub owes : Stage → Phase → Bool
owes (Asking r s) f = false
owes (Settled Back true) f = backing f
owes (Settled Back false) f = false
owes (Settled Save v) f = false

pub record Board {R : Type 0} (rules : Rules R) (stage : Stage) (row : Row) (table : R) (stored : Kept R)
    (own kept drawn : Story) (due : Bool) (base mid since : Story) : Type 0 where
  pub marked : Marked row.marks row.count own base mid since
  pub standing_is : stored.standing ≡ made rules base
  pub table_is : row.lost ≡ false → table ≡ made rules own
  pub pending_is : MatchBool (saving row.role.phase)
      ((stored.pending ≡ Some (made rules (mid ++ base))) × (drawn ≡ mid ++ base) × Unsent since)
      ((stored.pending ≡ None) × (mid ≡ []))
  pub kept_is : kept ≡ cond (keeps stage row.role.phase) (mid ++ base) base
  pub due_is : due ≡ owes stage row.role.phase

abbrev pub BoardAt : {R : Type 0} → Rules R → State R → History → (ℕ → Story) → (ℕ → Story) → (ℕ → Story) → ℕ → Type 0
BoardAt rules s τ base mid since i =
    Board rules τ.stage (s.rows i) (s.table i) (stored_at rules s i) (τ.own i) (τ.kept i) (τ.drawn i)
    (τ.due i) (base i) (mid i) (since i)

-- the round's frame: who is held, who waits for whom, which control messages are on the wire
abbrev pub bit : Bool → ℕ
bit true = 1
bit false = 0

-- 1 if b gathers, drawn in by a
abbrev pub child : Role → ℕ → ℕ → ℕ
child t a b = cond (gathering t.phase) (cond (eqb t.asker a) (cond (eqb a b) 0 1) 0) 0

abbrev pub FitsPhase : Stage → Phase → Type 0
FitsPhase (Asking r s) f = (f ≡ Free) ⊎ ((f ≡ Gathering r) ⊎ (f ≡ Answered r))
FitsPhase (Settled r v) f = (f ≡ Free) ⊎ (f ≡ Answered r)

abbrev pub Chain : (ℕ → Role) → ℕ → List ℕ → Type 0
Chain role s [] = Unit {0}
Chain role s (x ∷ xs) = (x ≡ s → ⊥) × (((role x).asker ≡ s) ⊎ (member (role x).asker xs ≡ true)) × Chain role s xs

pub record Tree (r : Round) (s : ℕ) (role : ℕ → Role) (nay : ℕ → ℕ → ℕ) (joined : List ℕ) : Type 0 where
  pub start_phase : (role s).phase ≡ Gathering r
  pub start_own : (role s).asker ≡ s
  pub members : (b : ℕ) → held (role b).phase ≡ (eqb b s || member b joined)
  pub chain : Chain role s joined
  pub noes : (x : ℕ) → (role x).phase ≡ Answered r → (role x).answer ≡ false →
      (0 < nay x (role x).asker) ⊎ ((role (role x).asker).answer ≡ false)

abbrev pub Treed : Stage → (ℕ → Role) → (ℕ → ℕ → ℕ) → List ℕ → Type 0
Treed (Asking r s) role nay joined = Tree r s role nay joined
Treed (Settled r v) role nay joined = Unit {0}

pub record Frame (n : ℕ) (stage : Stage) (role : ℕ → Role) (ak yea nay dec : ℕ → ℕ → ℕ) (joined : List ℕ) :
    Type 0 where
  pub tokens : (a b : ℕ) → ak a b + (yea b a + nay b a) + child (role b) a b ≡ bit ((role a).awaited b)
  pub awaits : (a b : ℕ) → (role a).awaited b ≡ true → gathering (role a).phase ≡ true
  pub near : (a b : ℕ) → n ≤ b → (role a).awaited b ≡ false
  pub self : (a : ℕ) → (role a).cohort a ≡ false
  pub dec_one : (a b : ℕ) → dec a b ≤ 1
  pub dec_free : (a b : ℕ) → 0 < dec a b → (role a).phase ≡ Free
  pub fits : (a : ℕ) → FitsPhase stage (role a).phase
  pub far : (a : ℕ) → n ≤ a → (role a).phase ≡ Free
  pub tree : Treed stage role nay joined

-- what asks and decisions on the wire say
abbrev pub label_of : Round → Marks → ℕ → ℕ
label_of Save m b = m.heard_aside b
label_of Back m b = m.saved b

abbrev pub FitsNote : Stage → (ℕ → ℕ → ℕ) → Message → Type 0
FitsNote g lab (post a b (Word l w)) = Unit {0}
FitsNote (Asking r s) lab (post a b (Ask k l)) = (k ≡ r) × (l ≡ lab a b)
FitsNote (Settled r v) lab (post a b (Ask k l)) = ⊥
FitsNote g lab (post a b (Reply y)) = Unit {0}
FitsNote (Asking r s) lab (post a b (Decision k y)) = ⊥
FitsNote (Settled r v) lab (post a b (Decision k y)) = (k ≡ r) × (y ≡ v)

abbrev pub labels : Stage → (ℕ → Marks) → ℕ → ℕ → ℕ
labels (Asking r s) marks a b = label_of r (marks a) b
labels (Settled r v) marks a b = 0

abbrev pub InLoom : ℕ → Message → Type 0
InLoom n (post a b x) = (a < n) × (b < n) × (a ≡ b → ⊥)

abbrev pub Carried : (ℕ → Story) → Message → Type 0
Carried st (post p q (Word l w)) = (0 < l) × In (sent_to q) l (st p)
Carried st (post p q (Ask r l)) = Unit {0}
Carried st (post p q (Reply y)) = Unit {0}
Carried st (post p q (Decision r v)) = Unit {0}

-- why a board was drawn in, and why one that said yes need not be
abbrev pub Wanted : Round → (ℕ → Marks) → List Message → ℕ → ℕ → Type 0
Wanted Save marks w x k = (0 < (marks x).first_aside k) × ((marks x).first_aside k ≤ (marks k).heard_aside x)
Wanted Back marks w x k = ((marks k).saved x < (marks x).heard k) × (tally (words k x) w ≡ 0)

abbrev pub asked : ℕ → Round → ℕ → Marks → ℕ → Bool
asked n Save p m b = ltb b n && (not (eqb b p) && ltb 0 (m.heard_aside b))
asked n Back p m b = ltb b n && not (eqb b p)

abbrev pub Spared : Round → Bool → (ℕ → Marks) → List Message → ℕ → ℕ → Type 0
Spared Save h marks w a b = (h ≡ true) ⊎ (((marks b).first a ≡ 0) ⊎ ((marks a).heard_aside b < (marks b).first a))
Spared Back h marks w a b = ((h ≡ true) ⊎ ((marks b).heard a ≤ (marks a).saved b)) × (tally (words a b) w ≡ 0)

pub record Reasons (n : ℕ) (r : Round) (s : ℕ) (role : ℕ → Role) (marks : ℕ → Marks) (w : List Message) : Type 0 where
  pub wanted : (x : ℕ) → held (role x).phase ≡ true → (x ≡ s → ⊥) → Wanted r marks w x (role x).asker
  pub covered : (a b : ℕ) → held (role a).phase ≡ true → asked n r a (marks a) b ≡ true →
      (0 < tally (replies true b a) w) ⊎ (((role a).awaited b ≡ false) × ((role a).answer ≡ true)) →
      Spared r (held (role b).phase) marks w a b

abbrev pub Reasoned : ℕ → Stage → (ℕ → Role) → (ℕ → Marks) → List Message → Type 0
Reasoned n (Asking r s) role marks w = Reasons n r s role marks w
Reasoned n (Settled r v) role marks w = Unit {0}

abbrev pub roles_of : {R : Type 0} → State R → ℕ → Role
roles_of s i = (s.rows i).role

abbrev pub marks_of : {R : Type 0} → State R → ℕ → Marks
marks_of s i = (s.rows i).marks

abbrev pub FrameOf : {R : Type 0} → ℕ → State R → History → Type 0
FrameOf n s τ = Frame n τ.stage (roles_of s) (λ a b. tally (asks a b) s.wire)
    (λ a b. tally (replies true a b) s.wire)
    (λ a b. tally (replies false a b) s.wire) (λ a b. tally (decisions a b) s.wire) τ.joined

pub record Inv {R : Type 0} (n : ℕ) (rules : Rules R) (s : State R) (τ : History) : Type 0 where
  pub store_size : length s.store.boards ≡ n
  pub base : ℕ → Story
  pub mid : ℕ → Story
  pub since : ℕ → Story
  pub boards : (i : ℕ) → BoardAt rules s τ base mid since i
  pub flow : (p q : ℕ) → Flow (word_label p q) (last (heard_from p) (τ.own q)) (s.rows p).count s.wire
  pub carried : AllByRecursion (Carried (present τ)) s.wire
  pub flushed : (a b : ℕ) → Flushed a b s.wire
  pub loom : AllByRecursion (InLoom n) s.wire
  pub notes : AllByRecursion (FitsNote τ.stage (labels τ.stage (marks_of s))) s.wire
  pub kept_free : NoLabelOrphan n τ.kept
  pub present_free : NoLabelOrphan n (present τ)
  pub frame : FrameOf n s τ
  pub reasons : Reasoned n τ.stage (roles_of s) (marks_of s) s.wire
