-- Over all moments of a read: so many names are noted, with one for each row and three for each head that may still come, and for the places that one
-- may name that goes alone, as where it began.
use Rattle.std.proofs.Common.{false, true, ◌≡◌, ◌≤◌, ◌<◌, ◌⊎◌, ◌+◌, ◌*◌, inl, inr, sym, subst, ◌∙◌, ℕ, zero, suc, Some, arith}
use Rattle.pp_answers_law.specs.Fills.{PartHeadsAreTheLaws}
use Rattle.pp_answers_law.specs.Takes.{OwnAnswersAreTheLaws, PartAnswersAreTheLaws, PassedAnswersAreTheLaws, RulesAreTheLaws}
use Rattle.pp_law.specs.Connections.{conn}
use Rattle.pp_law.specs.Lists.{Bytes}
use Rattle.pp_law.specs.OwnHeads.{is_wrong_head}
use Rattle.pp_law.specs.Requests.{goes_alone}
use Rattle.pp_law.specs.Responses.{answer_with, bad_head, bring_row, end_if_empty}
use Rattle.pp_law.specs.State.{State}
use Rattle.pp_laws_pool.proofs.View.{holds}
use Rattle.pp_origins.specs.Gots.{Both}
use Rattle.pp_reads_law.proofs.Fronts.{is_front}
use Rattle.pp_reads_law.proofs.PieceEnds.{IsOver, piece_is_over}
use Rattle.pp_reads_law.specs.Brings.{IsBehindHead, IsBehindPiece, IsMoment}
use Rattle.pp_reads_law.specs.Heads.{begun_by}
use Rattle.pp_store.specs.Kept.{KeptMap}
use Rattle.pp_joints_law.proofs.LinesAlone.{IsLone, bad_alone, head_alone, is_alone, more_alone, whole_alone}
use Rattle.pp_joints_law.proofs.LinesShrink.{HasLine}
use Rattle.pp_joints_law.proofs.MomentsHeads.{HeadAdds, head_adds, heads_note_on, names_in}
use Rattle.pp_joints_law.proofs.MomentsKept.{noted_ones_kept}
use Rattle.pp_joints_law.proofs.MomentsLines.{IsAnswered, LineLeft, behind_bad, behind_more, behind_refused, behind_taken, behind_whole, cleared_line, cleared_was, some_wait}
use Rattle.pp_joints_law.proofs.MomentsPieces.{piece_few, pieces_note_on}
use Rattle.pp_joints_law.proofs.PlacesFew.{others_few}
use Rattle.pp_joints_law.specs.HeadsNote.{others_told}
use Rattle.pp_joints_law.specs.MomentsNote.{NotesAt}
use Rattle.pp_joints_law.specs.ReadsNoteAll.{MayNoteAll, ReadsNoteAll}

-- ---- at a moment

-- three for each head that may still come, and 200 places: where the head of the first came, that one is paid for
abbrev pub HasPlenty : ℕ → ℕ → ℕ → State → Type 0
HasPlenty names wait n s = (names + 3 * wait ≤ 1847) ⊎ ((names + 3 * wait ≤ 1847 + 3) × IsAnswered n s)

-- or the places were named, by the one that goes alone: no head may come any more
abbrev pub HasNamed : ℕ → ℕ → ℕ → State → Type 0
HasNamed names wait n s = (names ≤ 2047) × ((wait ≤ 0) ⊎ ((wait ≤ 1) × IsAnswered n s))

pub record HasRoomAt (n : ℕ) (x : Both) (s : State) : Type 0 where
  pub wait : ℕ
  pub line : HasLine n wait s
  pub few : HasPlenty (names_in x) wait n s ⊎ HasNamed (names_in x) wait n s

pub record StandsAt (shelf : KeptMap) (n : ℕ) (x : Both) (s : State) : Type 0 where
  pub notes : NotesAt shelf x s
  pub alone : IsLone n s
  pub room : HasRoomAt n x s

begins_at : (shelf : KeptMap) (n : ℕ) (x : Both) (s : State) → MayNoteAll shelf n x s → StandsAt shelf n x s
begins_at shelf n x s may = record {
  notes = may.notes;
  alone = holds (λ k e found. may.alone k e found);
  room = record { wait = 8; line = holds (λ k found. may.short k found); few = inl (inl (let few : names_in x + 224 < 2048 = may.room in omega (arith, few))) };
}

-- what a step leaves of the line
abbrev IsLeft : ℕ → ℕ → ℕ → State → Type 0
IsLeft left wait n t = (left + 1 ≤ wait) ⊎ ((left ≡ wait) × IsAnswered n t)

-- ---- behind a head

fits_three : (m w : ℕ) → m + 3 * w ≤ 1847 → 1 ≤ w → m + (3 + 0) < 2048
fits_three m w few some = omega (arith, few, some)

fits_places : (m w o : ℕ) → m + 3 * w ≤ 1847 → 1 ≤ w → o ≤ 200 → m + (3 + o) < 2048
fits_places m w o few some places = omega (arith, few, some, places)

one_gone : (m l v w : ℕ) → l ≤ m + (3 + 0) → v + 1 ≤ w → m + 3 * w ≤ 1847 → l + 3 * v ≤ 1847
one_gone m l v w adds less few = omega (arith, adds, less, few)

one_paid : (m l v w : ℕ) → l ≤ m + (3 + 0) → v ≡ w → m + 3 * w ≤ 1847 → l + 3 * v ≤ 1847 + 3
one_paid m l v w adds same few = omega (arith, adds, same, few)

places_named : (m l o : ℕ) → l ≤ m + (3 + o) → m + (3 + o) < 2048 → l ≤ 2047
places_named m l o adds few = omega (arith, adds, few)

none_left : (v : ℕ) → v + 1 ≤ 1 → v ≤ 0
none_left v less = omega (arith, less)

one_left : (v : ℕ) → v ≡ 1 → v ≤ 1
one_left v is = omega (arith, is)

no_one : (w : ℕ) → w ≤ 0 → 1 ≤ w → ⊥
no_one w none some = absurd (omega (arith, none, some))

module _ (rules : RulesAreTheLaws) (own : OwnAnswersAreTheLaws) (passed : PassedAnswersAreTheLaws) (part : PartAnswersAreTheLaws) (part_heads : PartHeadsAreTheLaws) (name : Bytes) (shelf : KeptMap) (n : ℕ) (x : Both) (s : State) (bytes : Bytes) (next : Both) (t : State) (rest : Bytes) (it : IsBehindHead name shelf n x s bytes next t rest) (at : StandsAt shelf n x s) where
  abbrev wait : ℕ
  wait = at.room.wait

  there : conn it.there.then n ≡ Some it.there.before
  there = it.there.due.due.on.there

  line_then : HasLine n wait it.there.then
  line_then = cleared_line n wait s it.there.then it.conn it.there.before it.there.stands at.room.line

  some : 1 ≤ wait
  some = let first = is_front it.there.then it.there.before it.exchange it.there.due.due.front in some_wait n wait it.there.then it.there.before it.exchange.number first.others there first.line line_then

  -- no head came before it
  quiet : IsAnswered n s → ⊥
  quiet is = let w = cleared_was n s it.there.then it.conn it.there.before it.there.stands there in is w.0 w.1 (w.2 ∙ it.quiet)

  few : names_in x + 3 * wait ≤ 1847
  few = by at.room.few
    where
      plenty : HasPlenty (names_in x) wait n s → names_in x + 3 * wait ≤ 1847
      plenty (inl is) = is
      plenty (inr is) = absurd (quiet is.1)

      named : (wait ≤ 0) ⊎ ((wait ≤ 1) × IsAnswered n s) → names_in x + 3 * wait ≤ 1847
      named (inl none) = absurd (no_one wait none some)
      named (inr is) = absurd (quiet is.1)

      by : HasPlenty (names_in x) wait n s ⊎ HasNamed (names_in x) wait n s → names_in x + 3 * wait ≤ 1847
      by (inl is) = plenty is
      by (inr is) = named is.1

  abbrev others : ℕ
  others = others_told it.exchange it.it.head

  -- what it leaves, where so many of the line may come
  abbrev Adds : Type 0
  Adds = HeadAdds it.there.before it.exchange it.it.head it.it.rule it.there.then x next t

  left_of : (most : ℕ) → HasLine n most it.there.then → Adds → LineLeft n most t
  left_of most line adds = by adds.law
    where
      by : (t ≡ bad_head it.there.before (bring_row it.exchange it.it.head it.there.then)) ⊎ ((is_wrong_head it.exchange it.it.head ≡ false) × (t ≡ end_if_empty it.there.before it.exchange (answer_with it.exchange it.it.head it.it.rule) (begun_by it.there.before it.exchange it.it.head it.it.rule it.there.then))) → LineLeft n most t
      by (inl is) = behind_refused n most it.there.before it.exchange it.it.head it.it.rule it.there.then t there it.there.due.due.front line is
      by (inr is) = behind_taken n most it.there.before it.exchange it.it.head it.it.rule it.there.then t there it.there.due.due.front line (it.rests.end is.0).passed is.1

  module _ (room : names_in x + (3 + others) < 2048) where
    pub adds : Adds
    adds = head_adds rules own passed part part_heads name shelf n x s bytes next t rest it.anew it it.rests it.straight it.shows room at.notes

    pub stands_with : HasRoomAt n next t → StandsAt shelf n next t
    stands_with left = record {
      notes = heads_note_on rules own passed part part_heads name shelf n x s bytes next t rest it.anew it it.rests it.straight it.shows room at.notes;
      alone = head_alone n it.conn it.there.before it.exchange it.it.head it.it.rule s it.there.then t it.there.stands adds.law at.alone;
      room = left;
    }

  -- it names no other places
  plain : others ≡ 0 → StandsAt shelf n next t
  plain none = stands_with room (record { wait = left.left; line = left.line; few = inl (by left.is) })
    where
      room : names_in x + (3 + others) < 2048
      room = subst (λ (m : ℕ). names_in x + (3 + m) < 2048) (sym none) (fits_three (names_in x) wait few some)

      three : names_in next ≤ names_in x + (3 + 0)
      three = subst (λ (m : ℕ). names_in next ≤ names_in x + (3 + m)) none (adds room).few

      left : LineLeft n wait t
      left = left_of wait line_then (adds room)

      by : IsLeft left.left wait n t → HasPlenty (names_in next) left.left n t
      by (inl less) = inl (one_gone (names_in x) (names_in next) left.left wait three less few)
      by (inr same) = inr (one_paid (names_in x) (names_in next) left.left wait three same.0 few, same.1)

  -- or some, and goes alone
  lone : others ≤ 200 → HasLine n 1 it.there.then → StandsAt shelf n next t
  lone places line = stands_with room (record { wait = left.left; line = left.line; few = inr (places_named (names_in x) (names_in next) others (adds room).few room, by left.is) })
    where
      room : names_in x + (3 + others) < 2048
      room = fits_places (names_in x) wait others few some places

      left : LineLeft n 1 t
      left = left_of 1 line (adds room)

      by : IsLeft left.left 1 n t → (left.left ≤ 0) ⊎ ((left.left ≤ 1) × IsAnswered n t)
      by (inl less) = inl (none_left left.left less)
      by (inr same) = inr (one_left left.left same.0, same.1)

  head_stands : StandsAt shelf n next t
  head_stands = by (others_few it.exchange it.it.head it.it.text it.it.whole)
    where
      by : (others ≡ 0) ⊎ ((others ≤ 200) × (goes_alone it.exchange.head ≡ true)) → StandsAt shelf n next t
      by (inl none) = plain none
      by (inr is) = lone is.0 (is_alone n s it.there.then it.conn it.there.before it.exchange it.there.stands there it.there.due.due.front is.1 at.alone)

-- ---- behind a piece of a body

fits_now : (m w : ℕ) → m + 3 * w ≤ 1847 + 3 → m + 0 < 2048
fits_now m w few = omega (arith, few)

fits_named : (m : ℕ) → m ≤ 2047 → m + 0 < 2048
fits_named m few = omega (arith, few)

ends_one : (m l v w : ℕ) → l ≤ m → v + 1 ≤ w → m + 3 * w ≤ 1847 + 3 → l + 3 * v ≤ 1847
ends_one m l v w none less few = omega (arith, none, less, few)

as_before : (m l v w most : ℕ) → l ≤ m → v ≡ w → m + 3 * w ≤ most → l + 3 * v ≤ most
as_before m l v w most none same few = omega (arith, none, same, few)

no_more : (m l most : ℕ) → l ≤ m → m ≤ most → l ≤ most
no_more m l most none few = omega (arith, none, few)

ends_last : (v w : ℕ) → v + 1 ≤ w → w ≤ 1 → v ≤ 0
ends_last v w less one = omega (arith, less, one)

also : (m most : ℕ) → m ≤ most → m ≤ most + 3
also m most le = omega (arith, le)

module _ (name : Bytes) (shelf : KeptMap) (n : ℕ) (x : Both) (s : State) (bytes : Bytes) (next : Both) (t : State) (rest : Bytes) (it : IsBehindPiece name shelf n x s bytes next t rest) (at : StandsAt shelf n x s) where
  abbrev waits : ℕ
  waits = at.room.wait

  here : conn s n ≡ Some it.conn
  here = it.within.on.may.there

  some_do : 1 ≤ waits
  some_do = let first = is_front s it.conn it.exchange it.within.front in some_wait n waits s it.conn it.exchange.number first.others here first.line at.room.line

  most : HasPlenty (names_in x) waits n s → names_in x + 3 * waits ≤ 1847 + 3
  most (inl is) = also (names_in x + 3 * waits) 1847 is
  most (inr is) = is.0

  fits : names_in x + 0 < 2048
  fits = by at.room.few
    where
      by : HasPlenty (names_in x) waits n s ⊎ HasNamed (names_in x) waits n s → names_in x + 0 < 2048
      by (inl is) = fits_now (names_in x) waits (most is)
      by (inr is) = fits_named (names_in x) is.0

  adds_none : names_in next ≤ names_in x
  adds_none = piece_few name shelf n x s bytes next t rest it.number it.shows it it.may fits at.notes

  over : IsOver x next s n it.conn it.answer it.exchange bytes
  over = piece_is_over it.number name shelf n x s bytes next t rest it.shows it it.may

  line_left : LineLeft n waits t
  line_left = by over
    where
      by : IsOver x next s n it.conn it.answer it.exchange bytes → LineLeft n waits t
      by (inl one) = behind_more n waits it.conn it.exchange it.answer one.came s here it.within.front at.room.line bytes t (it.state ∙ one.law_is)
      by (inr (inl one)) = behind_whole n waits it.conn it.exchange it.answer one.came s here it.within.front at.room.line t (it.state ∙ one.law_is)
      by (inr (inr one)) = behind_bad n waits it.conn it.exchange it.answer one.came s here it.within.front at.room.line t (it.state ∙ one.law_is)

  alone_left : IsLone n t
  alone_left = by over
    where
      by : IsOver x next s n it.conn it.answer it.exchange bytes → IsLone n t
      by (inl one) = more_alone n it.conn it.exchange it.answer one.came bytes s t (it.state ∙ one.law_is) at.alone
      by (inr (inl one)) = whole_alone n it.conn it.exchange it.answer one.came s t (it.state ∙ one.law_is) at.alone
      by (inr (inr one)) = bad_alone n it.conn it.exchange it.answer one.came s t (it.state ∙ one.law_is) at.alone

  piece_stands : StandsAt shelf n next t
  piece_stands = record {
    notes = pieces_note_on name shelf n x s bytes next t rest it.number it.shows it it.may fits at.notes;
    alone = alone_left;
    room = record { wait = line_left.left; line = line_left.line; few = by at.room.few };
  }
    where
      plenty : HasPlenty (names_in x) waits n s → IsLeft line_left.left waits n t → HasPlenty (names_in next) line_left.left n t
      plenty is (inl less) = inl (ends_one (names_in x) (names_in next) line_left.left waits adds_none less (most is))
      plenty is (inr same) = inr (as_before (names_in x) (names_in next) line_left.left waits (1847 + 3) adds_none same.0 (most is), same.1)

      named : (waits ≤ 0) ⊎ ((waits ≤ 1) × IsAnswered n s) → IsLeft line_left.left waits n t → (line_left.left ≤ 0) ⊎ ((line_left.left ≤ 1) × IsAnswered n t)
      named (inl none) left = absurd (no_one waits none some_do)
      named (inr is) (inl less) = inl (ends_last line_left.left waits less is.0)
      named (inr is) (inr same) = inr (subst (λ (m : ℕ). m ≤ 1) (sym same.0) is.0, same.1)

      by : HasPlenty (names_in x) waits n s ⊎ HasNamed (names_in x) waits n s → HasPlenty (names_in next) line_left.left n t ⊎ HasNamed (names_in next) line_left.left n t
      by (inl is) = inl (plenty is line_left.is)
      by (inr is) = inr (no_more (names_in x) (names_in next) 2047 adds_none is.0, named is.1 line_left.is)

-- ---- all of them

module _ (rules : RulesAreTheLaws) (own : OwnAnswersAreTheLaws) (passed : PassedAnswersAreTheLaws) (part : PartAnswersAreTheLaws) (part_heads : PartHeadsAreTheLaws) (name : Bytes) (shelf : KeptMap) (n : ℕ) (begins : Both) (from : State) (all : Bytes) (may : MayNoteAll shelf n begins from) where
  pub all_stand : (pieces : ℕ) (x : Both) (s : State) (bytes : Bytes) → IsMoment pieces name shelf n begins from all x s bytes → StandsAt shelf n x s
  unfolding IsMoment
  all_stand zero x s bytes is = subst (λ (y : Both). StandsAt shelf n y s) (sym is.0) (subst (λ (u : State). StandsAt shelf n begins u) (sym is.1) (begins_at shelf n begins from may))
  all_stand (suc pieces) x s bytes is = by is.4 (all_stand pieces is.0 is.1 is.2 is.3)
    where
      by : IsBehindHead name shelf n is.0 is.1 is.2 x s bytes ⊎ IsBehindPiece name shelf n is.0 is.1 is.2 x s bytes → StandsAt shelf n is.0 is.1 → StandsAt shelf n x s
      by (inl head) before = head_stands rules own passed part part_heads name shelf n is.0 is.1 is.2 x s bytes head before
      by (inr piece) before = piece_stands name shelf n is.0 is.1 is.2 x s bytes piece before

pub reads_note_all : RulesAreTheLaws → OwnAnswersAreTheLaws → PassedAnswersAreTheLaws → PartAnswersAreTheLaws → PartHeadsAreTheLaws → ReadsNoteAll
reads_note_all rules own passed part part_heads pieces name shelf n begins from all x s bytes may is =
    let at : StandsAt shelf n x s = all_stand rules own passed part part_heads name shelf n begins from all may pieces x s bytes is in
    record { notes = at.notes; kept = noted_ones_kept shelf x s at.notes; forgotten = at.notes.tied.leaves.forgotten }
