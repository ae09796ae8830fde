-- Of what is dropped as much is counted as came, at each moment of a read, one behind the other.
use Rattle.std.proofs.Common.{◌≡◌, ◌⊎◌, inl, inr, sym, subst, ℕ, zero, suc, List}
use Rattle.pp_law.specs.Lists.{Bytes}
use Rattle.pp_law.specs.State.{State, ReadOf, Term}
use Rattle.pp_obeys.specs.Obeys.{Obeys}
use Rattle.pp_origins.specs.Gots.{Both}
use Rattle.pp_reads_law.specs.Brings.{IsBehindHead, IsBehindPiece, IsMoment}
use Rattle.pp_reads_law.specs.Heads.{HeadsComeAsTheLaws}
use Rattle.pp_stays_law.specs.Turns.{AreCounted}
use Rattle.pp_store.specs.Kept.{KeptMap}
use Rattle.pp_world.specs.Log.{Log}
use Rattle.pp_given_law.proofs.CountedHeads.{behind_heads}
use Rattle.pp_given_law.proofs.CountedPieces.{behind_pieces}
use Rattle.pp_given_law.proofs.LinesAnswered.{lines_in_reads}
use Rattle.pp_reads_law.proofs.MomentsGot.{holds_at}
use Rattle.pp_given_law.proofs.MomentsRoom.{can_be_counted, room_at}
use Rattle.pp_given_law.specs.Came.{HasRoomToCount}
use Rattle.pp_given_law.specs.Pieces.{CountedAtMoments, LinesAreAnswered}

module _ (comes : HeadsComeAsTheLaws) (terms : List Term) (log : Log) (name : Bytes) (shelf : KeptMap) (n : ℕ) (begins : Both) (from : State) (all : Bytes) (obeys : Obeys terms from log) (owed : from.owed ≡ ReadOf n) (room : HasRoomToCount from n all) where
  lines_at : (pieces : ℕ) (x : Both) (s : State) (bytes : Bytes) → IsMoment pieces name shelf n begins from all x s bytes → LinesAreAnswered s
  lines_at pieces x s bytes is = holds_at name shelf n begins from all LinesAreAnswered (λ more. lines_in_reads terms log n from obeys owed more all) pieces x s bytes is

  next_counted : (pieces : ℕ) (x next : Both) (s t : State) (bytes rest : Bytes) → IsMoment pieces name shelf n begins from all x s bytes → LinesAreAnswered t → IsBehindHead name shelf n x s bytes next t rest ⊎ IsBehindPiece name shelf n x s bytes next t rest → AreCounted x.state s → AreCounted next.state t
  next_counted pieces x next s t bytes rest is later (inl it) counted =
      behind_heads it.anew name shelf n x next s t bytes rest it it.shows
      (comes it.number shelf it.there.begin it.head it.there.then n it.there.before it.exchange it.there.peer it.it.head it.it.rule it.it.left it.there.shows it.there.due it.it.read it.rests.may it.it.came it.given it.refused it.calm) it.rests.end (lines_at pieces x s bytes is) later counted
  next_counted pieces x next s t bytes rest is later (inr it) counted =
      behind_pieces it.number name shelf n x next s t bytes rest it.shows it it.may (lines_at pieces x s bytes is) later (can_be_counted name shelf n x next s t bytes rest it (room_at name shelf n begins from all pieces x s bytes room is)) counted

  both_same : (x : Both) (s : State) → x ≡ begins → s ≡ from → AreCounted begins.state from → AreCounted x.state s
  both_same x s one two counted = subst (λ (z : Both). AreCounted z.state s) (sym one) (subst (λ (t : State). AreCounted begins.state t) (sym two) counted)

  counted_at : AreCounted begins.state from → (pieces : ℕ) (x : Both) (s : State) (bytes : Bytes) → LinesAreAnswered s → IsMoment pieces name shelf n begins from all x s bytes → AreCounted x.state s
  unfolding IsMoment
  counted_at counted zero x s bytes lines is = both_same x s is.0 is.1 counted
  counted_at counted (suc pieces) x s bytes lines is =
      next_counted pieces is.0 x is.1 s is.2 bytes is.3 lines is.4 (counted_at counted pieces is.0 is.1 is.2 (lines_at pieces is.0 is.1 is.2 is.3) is.3)

pub at_moments : HeadsComeAsTheLaws → CountedAtMoments
at_moments comes terms log name shelf n begins from all obeys owed room counted pieces x s bytes is =
    counted_at comes terms log name shelf n begins from all obeys owed room counted pieces x s bytes (lines_at comes terms log name shelf n begins from all obeys owed room pieces x s bytes is) is
