-- A cut that is found is permitted, and leads where the law leads.
use Rattle.std.proofs.Common.{◌≡◌, refl, sym, subst, ap, ◌∙◌, ℕ, true, false, ◌&&◌, not, List, [], Option, Some, None, option_map}
use Rattle.std.specs.Prelude.{is_some, option_and_then, slice_get}
use Rattle.pp_turns_law.proofs.Leaving.{leaves_client}
use Rattle.pp_turns_law.specs.Clients.{MayBeClosed}
use Rattle.pp_turns_law.specs.Sides.{MayClose, ShowsSides}
use Rattle.pp_turns_law.proofs.Sitting.{is_at, shown_at}
use Rattle.pp_turns_law.specs.Decides.{FollowsWhatIsThere}
use Rattle.pp_desk.specs.Closings.{Sides, closed_client}
use Rattle.pp_due.specs.Due.{cut_of}
use Rattle.pp_due.specs.Entering.{key_at, key_due}
use Rattle.pp_flow_law.specs.Tables.{none_leaves}
use Rattle.pp_law.specs.Closing.{close_client, is_of}
use Rattle.pp_law.specs.Due.{CutOff, first_due}
use Rattle.pp_law.specs.Lists.{Bytes}
use Rattle.pp_law.specs.Phases.{in_phase}
use Rattle.pp_law.specs.State.{State, Client, Deciding}
use Rattle.pp_laws.proofs.Lists.{in_find}
use Rattle.pp_laws_turn.specs.SoundTurn.{IsSoundTurn}
use Rattle.pp_obeys.proofs.Calls.{moves_to}
use Rattle.pp_obeys.proofs.TurnHappenings.{cuts_due, goes_cut}
use Rattle.pp_obeys.specs.Moves.{Goes}
use Rattle.pp_objects.specs.Instances.{is_there}
use Rattle.pp_peers.specs.declared.peers.Peer.{Peer}
use Rattle.pp_seats.specs.Follows.{answer_in}
use Rattle.pp_seats.specs.Heads.{asked_in, owned_in}
use Rattle.pp_seats.specs.declared.due.Due.TheVariants.{CutOff as IsCut}
use Rattle.pp_seats.specs.declared.seat.Answer.{Answer}
use Rattle.pp_seats.specs.declared.seat.Seat.{Seat}
use Rattle.pp_seats.specs.Dues.{is_refused_in}
use Rattle.pp_seats_law.proofs.Dues.{cuts}
use Rattle.pp_seats_law.specs.Dues.{due_as}
use Rattle.pp_seats_law.specs.Seats.{ShowsSeat}
use Rattle.pp_state.specs.Ends.{parts, source_of}
use Rattle.pp_state.specs.declared.state.State.{State as Turn}
use Rattle.pp_store.specs.Kept.{KeptMap}
use Rattle.pp_turns_law.proofs.AllDue.{cut_same}
use Rattle.pp_turns_law.proofs.First.{first_dues}
use Rattle.pp_turns_law.specs.Firsts.{IsFirst, with_row_if}
use Rattle.pp_turns_law.specs.Rows.{IsReady, ShowsDisk}
use Rattle.pp_turns_law.specs.Turns.{IsFollowing}
use Rattle.pp_world.specs.declared.happening.Happening.TheVariants.{Noted}
use Rattle.pp_world.specs.declared.note.Cause.{Cause}
use Rattle.pp_world.specs.declared.note.Remark.TheVariants.{Cut}
use Rattle.pp_deciding_law.proofs.Disk.{shows_disk}
use Rattle.pp_deciding_law.proofs.Due.{IsCutFor, cut_by, deciding_by, its_due}
use Rattle.pp_deciding_law.proofs.Found.{IsButForMemory, first_keeps}
use Rattle.pp_deciding_law.proofs.Framed.{steps_in}
use Rattle.pp_deciding_law.specs.Cuts.{CutsAsTheLaw, CutsLead, IsCutNext}
use Rattle.pp_deciding_law.specs.Stands.{StandsToDecide}

-- ---- what it follows is there

pub follows_there : (i : ℕ) (p : Turn) (seat : Seat) → slice_get p.seats.items i ≡ Some seat → IsFollowing p.cache seat → FollowsWhatIsThere i (parts p)
follows_there i p seat here follows id source = by (answer_in seat.stage) refl (sym (ap (λ (o : Option Seat). option_and_then source_of o) here) ∙ source)
  where
    by : (o : Option Answer) → answer_in seat.stage ≡ o → option_and_then (λ (a : Answer). a.source) o ≡ Some id → is_there id p.cache.instances ≡ true
    by None is at = absurd (cc at)
    by (Some a) is at = follows a id is at

module _ (number0 : ℕ → ℕ) (peers : List Peer) (shelf : KeptMap) (i : ℕ) (cause : Cause) (p q : Turn) (s : State) (seat : Seat) (c : Client) (stands : StandsToDecide number0 peers shelf p s) (sound : IsSoundTurn s) (orderly : MayClose s) (next : IsCutNext shelf i cause p q s seat c) where
  abbrev n : ℕ
  n = seat.client.id

  abbrev u : State
  u = in_phase Deciding s

  abbrev x : Sides
  x = record { parts = parts q; peers = peers }

  pub found : IsFirst none_leaves peers shelf p q s (Some (i, IsCut cause))
  found = first_dues number0 none_leaves peers shelf p q s (Some (i, IsCut cause)) (shows_disk number0 peers shelf p s stands sound) stands.kept stands.awake next.first

  abbrev number : ℕ → ℕ
  number = found.number

  -- ---- it is due in the law

  first : first_due s ≡ Some (CutOff n cause)
  first = sym found.due ∙ ap (λ (o : Option Seat). option_map (λ (y : Seat). due_as y.client.id y.index (IsCut cause)) o) next.here

  cut : IsCutFor s c cause
  cut = cut_by s c n cause (its_due s s.clients (CutOff n cause) c first next.there (sound.apart.clients n))

  goes : Goes s (Noted (Cut n cause)) (close_client n true u)
  goes = goes_cut s n cause stands.deciding.none (deciding_by s (CutOff n cause) stands.deciding.at first) (cuts_due s n cause first)

  -- ---- no row comes in for it

  before : slice_get p.seats.items i ≡ Some seat
  before = let same : IsButForMemory p q = first_keeps shelf p.awake.items p q (Some (i, IsCut cause)) next.first in ap (λ (r : Turn). slice_get r.seats.items i) (sym same) ∙ next.here

  seen_before : ShowsSeat number0 p.name.items [] seat c
  seen_before = shown_at number0 p.name.items [] p.seats.items s.clients n i seat c stands.turn.steps.shows.clients (is_at i p.seats.items seat stands.turn.steps.order before) before next.there

  ready_before : IsReady number0 p.cache s.next_instance seat
  ready_before = stands.ready i seat before (seen_before.closing ∙ cut.going)

  cut_before : cut_of p seat ≡ Some cause
  cut_before =
      cut_same number0 none_leaves peers p s p.name.items seat c stands.turn seen_before cut.going ready_before.follows
      ∙ cuts number0 s p.name.items seat c (seen_before.going cut.going) ∙ cut.cut

  bare : key_at i p ≡ None
  bare =
      ap (λ (o : Option Seat). option_and_then (key_due p) o) before
      ∙ ap (λ (o : Option Cause). elim (not (is_some o) && not (is_refused_in seat.brought)) as (λ t. Option Bytes) [ true ↦ option_map (λ key. key.text.items) (owned_in (asked_in seat.front)) | false ↦ None ]) cut_before

  pub disk : ShowsDisk number none_leaves peers shelf q s
  disk = subst (λ (o : Option Bytes). ShowsDisk number none_leaves peers shelf q (with_row_if o s)) bare found.shows

  -- ---- it is closed

  seen : ShowsSeat number q.name.items [] seat c
  seen = shown_at number q.name.items [] q.seats.items s.clients n i seat c disk.turn.steps.shows.clients (is_at i q.seats.items seat disk.turn.steps.order next.here) next.here next.there

  shows : ShowsSides number q.name.items x u
  shows = record {
    steps = steps_in Deciding s.made_room_for number q.name.items none_leaves peers (parts q) s disk.turn.steps;
    may = record { apart = orderly.apart; orderly = orderly.orderly; go = record { going = orderly.go.going; coming = orderly.go.coming } };
  }

  may : MayBeClosed i x u seat c
  may = record {
    place = record { here = next.here; there = next.there };
    going = cut.going;
    there = follows_there i q seat next.here (disk.ready i seat next.here (seen.closing ∙ cut.going)).follows;
    once = sound.once c.number;
    rests = λ e its. sound.rests e (in_find (is_of c.number) e s.exchanges its).0;
  }

  pub closed : ShowsSides number q.name.items (closed_client i x) (close_client n true u)
  closed = subst (λ (m : ℕ). ShowsSides number q.name.items (closed_client i x) (close_client m true u)) (sym seen.number) (leaves_client number q.name.items x u shows i true seat c may)

  cuts_so : CutsAsTheLaw i cause peers q s seat
  cuts_so = record { leads = moves_to refl goes refl; number = number; shows = closed }

pub cuts_lead : CutsLead
cuts_lead number peers shelf i cause p q s seat c stands sound orderly next = cuts_so number peers shelf i cause p q s seat c stands sound orderly next
