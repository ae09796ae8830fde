-- And up to each moment between two pieces of the law, amid a read.
use Rattle.std.proofs.Common.{◌≡◌, ◌⊎◌, inl, inr, sym, subst, ap, ℕ, zero, suc, find, [], Option}
use Rattle.pp_law.specs.Lists.{Bytes}
use Rattle.pp_law.specs.State.{State as Law}
use Rattle.pp_origins.specs.Gots.{Both, IsStepOn, Remains, going_on, remaining}
use Rattle.pp_peers.specs.Peers.{is_number}
use Rattle.pp_state.specs.declared.state.State.{State as Turn}
use Rattle.pp_store.specs.Kept.{KeptMap}
use Rattle.pp_reads_law.proofs.StayReads.{head_stays, step_stays}
use Rattle.pp_reads_law.proofs.StillClients.{none, then}
use Rattle.pp_reads_law.specs.Brings.{IsBehindHead, IsBehindPiece, IsMoment}
use Rattle.pp_reads_law.specs.Heads.{with_head}
use Rattle.pp_reads_law.specs.Stays.{AreStill, StaysBeside}

abbrev pub SeatsStay : Both → Both → Type 0
SeatsStay x y = AreStill x.state.seats.items y.state.seats.items

abbrev then_still : (x y z : Both) → SeatsStay x y → SeatsStay y z → SeatsStay x z
then_still x y z one two = then x.state.seats.items y.state.seats.items z.state.seats.items one two

abbrev same_still : (x y : Both) → y.state ≡ x.state → SeatsStay x y
same_still x y is = subst (λ (t : Turn). AreStill x.state.seats.items t.seats.items) (sym is) (none x.state.seats.items)

step_still : (shelf : KeptMap) (n : ℕ) (here : Remains) (x y : Both) (behind : Option Remains) → IsStepOn (going_on (find (is_number n) x.peers)) shelf n here x y behind → SeatsStay x y
step_still shelf n here x y behind step = let one : StaysBeside x y = step_stays (going_on (find (is_number n) x.peers)) shelf n here x y behind step in one.clients

module _ (name : Bytes) (shelf : KeptMap) (n : ℕ) (w x : Both) (u s : Law) (more bytes : Bytes) where
  behind_head : IsBehindHead name shelf n w u more x s bytes → SeatsStay w x
  behind_head it = then_still w it.head x came (by it.then)
    where
      before : Both
      before = with_head n it.there.peer it.it.left it.there.begin

      came : SeatsStay w it.head
      came = let one : StaysBeside before it.head = head_stays shelf n before it.head it.it.came in then_still w before it.head (same_still w before it.there.state) one.clients

      by : (x ≡ it.head) ⊎ ((after : Option Remains) × IsStepOn (going_on (find (is_number n) it.head.peers)) shelf n (remaining it.it.rest []) it.head x after) → SeatsStay it.head x
      by (inl is) = same_still it.head x (ap (λ (z : Both). z.state) is)
      by (inr step) = step_still shelf n (remaining it.it.rest []) it.head x step.0 step.1

  behind_piece : IsBehindPiece name shelf n w u more x s bytes → SeatsStay w x
  behind_piece it = then_still w it.amid x (same_still w it.amid it.is_amid.state) (step_still shelf n it.here it.amid x it.after it.step)

pub moments_stay : (pieces : ℕ) (name : Bytes) (shelf : KeptMap) (n : ℕ) (begins x : Both) (from s : Law) (all bytes : Bytes) → IsMoment pieces name shelf n begins from all x s bytes → SeatsStay begins x
unfolding IsMoment
moments_stay zero name shelf n begins x from s all bytes is = same_still begins x (ap (λ (z : Both). z.state) is.0)
moments_stay (suc pieces) name shelf n begins x from s all bytes is = then_still begins is.0 x (moments_stay pieces name shelf n begins is.0 from is.1 all is.2 is.3) (by is.4)
  where
    by : IsBehindHead name shelf n is.0 is.1 is.2 x s bytes ⊎ IsBehindPiece name shelf n is.0 is.1 is.2 x s bytes → SeatsStay is.0 x
    by (inl head) = behind_head name shelf n is.0 x is.1 s is.2 bytes head
    by (inr piece) = behind_piece name shelf n is.0 x is.1 s is.2 bytes piece
