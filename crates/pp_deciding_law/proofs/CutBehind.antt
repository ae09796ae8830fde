-- Behind a cut the turn stands as before it.
use Rattle.std.proofs.Common.{◌≡◌, sym, subst, ap, ◌∙◌, ℕ, true, ◌||◌, List, Option, Some, None}
use Rattle.pp_cache.specs.Bounds.{IsBounded}
use Rattle.pp_turns_law.specs.Sides.{MayClose, ShowsSides}
use Rattle.pp_conf.specs.Conf.{Settings}
use Rattle.pp_desk.specs.Closings.{Sides, closed_client}
use Rattle.pp_flow_law.specs.Tables.{none_leaves}
use Rattle.pp_law.specs.Lists.{Bytes, has_number}
use Rattle.pp_law.specs.Opening.{is_same_phase}
use Rattle.pp_law.specs.State.{State, Client, Phase, Reply, Stage, Undecided, Waiting, Passing, Answering, Deciding, DecidingAgain}
use Rattle.pp_laws_turn.specs.SoundTurn.{IsSoundTurn}
use Rattle.pp_peers.specs.declared.peers.Peer.{Peer}
use Rattle.pp_seats.specs.declared.due.Due.TheVariants.{CutOff as IsCut}
use Rattle.pp_seats.specs.declared.seat.Seat.{Seat}
use Rattle.pp_state.specs.Ends.{parts}
use Rattle.pp_state.specs.declared.state.State.{State as Turn}
use Rattle.pp_states_law.specs.Steps.{ShowsSteps}
use Rattle.pp_store.specs.Kept.{KeptMap}
use Rattle.pp_turns_law.specs.Firsts.{AreAwake, IsFirst}
use Rattle.pp_turns_law.specs.Rows.{AreReady, ShowsDisk}
use Rattle.pp_turns_law.specs.Turns.{ShowsTurn}
use Rattle.pp_world.specs.declared.note.Cause.{Cause}
use Rattle.pp_deciding_law.proofs.Behind.{found_in}
use Rattle.pp_deciding_law.proofs.Cuts.{closed, disk, found}
use Rattle.pp_deciding_law.proofs.Disk.{in_place}
use Rattle.pp_deciding_law.proofs.Found.{IsButForMemory, awake_on, first_keeps, first_notes_none, kept_on}
use Rattle.pp_deciding_law.proofs.Keeps.{Keeps, cuts_keep}
use Rattle.pp_deciding_law.proofs.Law.{SameWords, cut_disk, cut_phase, cut_room, cut_words, row_kept}
use Rattle.pp_deciding_law.proofs.Stays.{AreSourced, awake_now, ready_now}
use Rattle.pp_deciding_law.specs.Cuts.{CutsStand, IsBehindCut, IsCutNext, behind_cut}
use Rattle.pp_deciding_law.specs.Stands.{StandsBehind, StandsToDecide}

abbrev reply_at : Stage → Option Reply
reply_at stage = elim stage [ Undecided ↦ None | Waiting ↦ None | Passing ↦ None | Answering r ↦ Some r ]

module _ (number0 : ℕ → ℕ) (peers later : List Peer) (shelf : KeptMap) (i : ℕ) (cause : Cause) (p q r : Turn) (s : State) (seat : Seat) (c : Client) (stands : StandsToDecide number0 peers shelf p s) (sound : IsSoundTurn s) (orderly : MayClose s) (next : IsCutNext shelf i cause p q s seat c)
    (behind : IsBehindCut i peers later q r) (bounded : IsBounded r.cache) (then : IsSoundTurn (behind_cut seat.client.id s)) where
  abbrev t : State
  t = behind_cut seat.client.id s

  abbrev x : Sides
  x = record { parts = parts q; peers = peers }

  abbrev first : IsFirst none_leaves peers shelf p q s (Some (i, IsCut cause))
  first = found number0 peers shelf i cause p q s seat c stands sound orderly next

  abbrev number : ℕ → ℕ
  number = first.number

  shown : ShowsDisk number none_leaves peers shelf q s
  shown = disk number0 peers shelf i cause p q s seat c stands sound orderly next

  shows : ShowsSides number q.name.items (closed_client i x) t
  shows = closed number0 peers shelf i cause p q s seat c stands sound orderly next

  keeps : Keeps q.cache i (parts q) (parts r)
  keeps = subst (λ (y : Sides). Keeps q.cache i (parts q) y.parts) (sym behind.is) (cuts_keep q.cache i x)

  same_name : r.name.items ≡ q.name.items
  same_name = ap (λ (v : Turn). v.name.items) behind.rest

  set : IsButForMemory p q
  set = first_keeps shelf p.awake.items p q (Some (i, IsCut cause)) next.first

  turn_behind : ShowsTurn number none_leaves later r t
  turn_behind =
      let words : SameWords s t = cut_words seat.client.id s in
      record {
        steps = subst (λ (name : Bytes). ShowsSteps number name none_leaves later (parts r) t) (sym same_name) (subst (λ (y : Sides). ShowsSteps number q.name.items none_leaves y.peers y.parts t) (sym behind.is) shows.steps);
        name = same_name ∙ ap (λ (v : Turn). v.name.items) set ∙ stands.turn.name ∙ ap (λ (y : Settings). y.name) (sym words.settings);
        shares = ap (λ (v : Turn). v.shares_fetches) behind.rest ∙ ap (λ (v : Turn). v.shares_fetches) set ∙ stands.turn.shares ∙ ap (λ (y : Settings). y.shares_fetches) (sym words.settings);
        clock = ap (λ (v : Turn). v.now) behind.rest ∙ ap (λ (v : Turn). v.now) set ∙ stands.turn.clock ∙ sym words.clock;
        ticked = ap (λ (v : Turn). v.is_ticked) behind.rest ∙ ap (λ (v : Turn). v.is_ticked) set ∙ stands.turn.ticked ∙ sym words.ticked;
        stopped = ap (λ (v : Turn). v.is_stopped) behind.rest ∙ ap (λ (v : Turn). v.is_stopped) set ∙ stands.turn.stopped ∙ sym words.stopped;
        bounded = bounded;
      }

  sourced : AreSourced t
  sourced = record {
    source = λ j d reply id at going stage source. then.sources d (in_place j t.clients d at) going reply id (ap (λ (y : Stage). reply_at y) stage) source;
    made = λ j d id plain at brought. then.made d id plain (in_place j t.clients d at) brought;
  }

  ready_behind : AreReady number r.cache t.next_instance r.seats.items
  ready_behind = ready_now number r.name.items later i q r s t seat shown.turn.steps.shows.table.table shown.ready next.here keeps turn_behind.steps sourced

  looked_at : has_number i q.awake.items ≡ true
  looked_at = ap (λ (v : Turn). has_number i v.awake.items) set ∙ found_in shelf p.awake.items p q i (IsCut cause) next.first

  awake_behind : AreAwake r
  awake_behind = awake_now q r q.cache i keeps (ap (λ (v : Turn). v.awake.items) behind.rest) (ap (λ (v : Turn). v.is_ticked) behind.rest) looked_at (awake_on p q set stands.awake)

  stands_so : StandsBehind later shelf r t
  stands_so = record {
    number = number;
    stands = record {
      deciding = record { at = ap (λ (f : Phase). is_same_phase Deciding f || is_same_phase DecidingAgain f) (cut_phase seat.client.id s); none = cut_room seat.client.id s ∙ stands.deciding.none };
      turn = turn_behind;
      disk = kept_on shelf p.cache r.cache s t (keeps.outdated ∙ first_notes_none shelf p.awake.items p q (Some (i, IsCut cause)) next.first) (row_kept s t (cut_disk seat.client.id s)) stands.disk;
      ready = ready_behind;
      kept = stands.kept;
      awake = awake_behind;
    };
  }

pub cut_stand : CutsStand
cut_stand number peers later shelf i cause p q r s seat c stands sound orderly next behind bounded then = stands_so number peers later shelf i cause p q r s seat c stands sound orderly next behind bounded then
