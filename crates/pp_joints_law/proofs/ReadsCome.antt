-- From the wait on: each moment of a read, and behind all of it, where replies that are over end, which clears no row.
use Rattle.std.proofs.Common.{◌≡◌, ◌≤◌, ◌⊎◌, inl, inr, refl, sym, subst, ap, ◌∙◌, ℕ, length, List, Option, Some, None}
use Rattle.pp_answers_law.specs.Fills.{PartHeadsAreTheLaws}
use Rattle.pp_answers_law.specs.Takes.{OwnAnswersAreTheLaws, PartAnswersAreTheLaws, PassedAnswersAreTheLaws, RulesAreTheLaws}
use Rattle.pp_cache.specs.Memory.{Memory}
use Rattle.pp_desk.specs.Closings.{Sides}
use Rattle.pp_desk.specs.Marks.{marked_seat}
use Rattle.pp_desk.specs.declared.desk.Desk.{Desk}
use Rattle.pp_events_law.specs.Stands.{HasLedBehind}
use Rattle.pp_law.specs.After.{event, owing}
use Rattle.pp_law.specs.Connections.{on_client, on_conn}
use Rattle.pp_law.specs.Lists.{Bytes}
use Rattle.pp_law.specs.Replies.{end_replies, regained}
use Rattle.pp_law.specs.Responses.{got}
use Rattle.pp_law.specs.State.{State, Free, Owed, ReadOf, Term}
use Rattle.pp_law.specs.Turn.{touch}
use Rattle.pp_laws_pool.proofs.View.{facts_of as less_facts, holds}
use Rattle.pp_laws_pool.proofs.WalkClients.{end_replies-keeps}
use Rattle.pp_origins.specs.Gots.{Both, EndsBehind, both, sides_of}
use Rattle.pp_proxy.specs.Handling.{Wakes}
use Rattle.pp_proxy.specs.Moving.{Turning}
use Rattle.pp_reads_law.specs.Readable.{IsReadAwake}
use Rattle.pp_reads_law.specs.Stops.{Stops}
use Rattle.pp_seats.specs.declared.seat.Seat.{Seat}
use Rattle.pp_state.specs.Ends.{Parts, numbers_of, on_seat_where, parts, place_of}
use Rattle.pp_world.specs.Log.{Log}
use Rattle.pp_world.specs.declared.happening.Happening.TheVariants.{CanRead}
use Rattle.pp_joints_law.proofs.ClearedLaw.{Clears, clears, facts_of}
use Rattle.pp_joints_law.proofs.ClearedParts.{clears_stay, clears_then}
use Rattle.pp_joints_law.proofs.ClearedSides.{replies_stay}
use Rattle.pp_joints_law.proofs.ClearedSteps.{end_replies-clears}
use Rattle.pp_joints_law.proofs.Evictions.{alike_leaves}
use Rattle.pp_joints_law.proofs.MomentsAll.{StandsAt, all_stand, reads_note_all}
use Rattle.pp_joints_law.proofs.NoMore.{from as uses}
use Rattle.pp_joints_law.proofs.ReadsBegin.{reads_begin}
use Rattle.pp_joints_law.proofs.ReadsLeft.{HasRows, IsLedTo, UsesNoMore, evict_behind, left_rest, left_then, rows_at, shown, still, stopped, tied_behind}
use Rattle.pp_joints_law.specs.Behind.{StandsBefore}
use Rattle.pp_joints_law.specs.BehindBytes.{ComesSo}
use Rattle.pp_joints_law.specs.DataTies.{EvictAlike}
use Rattle.pp_joints_law.specs.HeadsNote.{IsTied}
use Rattle.pp_joints_law.specs.ReadsCome.{ReadsComeBehind, ReadsNoteAmid}
use Rattle.pp_joints_law.specs.ReadsNoteAll.{MayNoteAll}

-- ---- behind the last step replies that are over end

free_clears : {o : State} (s : State) → Clears o s → Clears o (record s { owed = Free })
free_clears s h = clears (facts_of h)

free_less : (o s : State) → UsesNoMore o s → UsesNoMore o (record s { owed = Free })
free_less o s h = let now = less_facts h in holds (record { evicting = now.evicting; few = now.few })

then_ends : (x y z : Both) (s t handled : State) → IsLedTo x y s t → EndsBehind (λ w. w) y z → handled ≡ record (end_replies t) { owed = Free } → IsLedTo x z s handled
then_ends x y z s t handled led ends law = record {
  law = subst (λ (u : State). Clears s u) (sym law) (free_clears (end_replies t) (end_replies-clears t led.law));
  less = subst (λ (u : State). UsesNoMore s u) (sym law) (free_less s (end_replies t) (end_replies-keeps (uses s) t led.less));
  turn = clears_then (parts x.state) (parts y.state) (parts z.state) led.turn (clears_stay (parts y.state) (parts z.state) (replies_stay y.state.awake.items (sides_of y) (sides_of z) ends.is));
  left = left_then x.state y.state z.state led.left (left_rest y.state z.state ends.rest);
}

-- ---- where the read begins rows are those of the wait

owed_rows : (o : Owed) (k : ℕ) (m : Memory) (s : State) → HasRows m s → HasRows m (event (owing o k s))
unfolding event owing touch regained on_conn on_client
owed_rows o k m s h = record { tidy = h.tidy; rows = h.rows; used = h.used }

cache_on_one : (o : Option ℕ) (f : Seat → Seat) (p : Parts) → (on_seat_where o f p).cache ≡ p.cache
cache_on_one None f p = refl
cache_on_one (Some i) f p = refl

woken_cache : (k : ℕ) (x woken : Desk) → Wakes k x woken → woken.state.cache ≡ x.state.cache
woken_cache k x woken wakes =
    ap (λ (z : Sides). z.parts.cache) wakes.touches.is ∙ cache_on_one (place_of k (numbers_of wakes.anew.state.seats.items)) (marked_seat wakes.anew.state.now) (parts wakes.anew.state) ∙ ap (λ (d : Desk). d.state.cache) wakes.regains.rest

-- ---- from the wait on

module _ (rules : RulesAreTheLaws) (own : OwnAnswersAreTheLaws) (passed : PassedAnswersAreTheLaws) (part : PartAnswersAreTheLaws) (part_heads : PartHeadsAreTheLaws) where
  pub reads_note_amid : ReadsNoteAmid
  reads_note_amid terms log number name shelf k x woken begins s all before wakes makes few pieces y t bytes is =
      reads_note_all rules own passed part part_heads pieces name shelf k begins (event (owing (ReadOf k) k s)) all y t bytes (reads_begin terms log number shelf k x woken begins s before wakes makes few) is

  module _ (terms : List Term) (log : Log) (number other : ℕ → ℕ) (k : ℕ) (bytes : Bytes) (x y : Turning) (s : State) (before : StandsBefore terms log number x.shelf x.moving s) (few_noted : length x.moving.desk.state.cache.outdated ≤ 768) (led : HasLedBehind other (CanRead k) x y s)
      (it : IsReadAwake k x y s bytes led.handled.handled) where
    abbrev from : State
    from = event (owing (ReadOf k) k s)

    abbrev begins : Both
    begins = it.through.begins

    abbrev x0 : Both
    x0 = it.through.ends.x

    abbrev s0 : State
    s0 = it.through.ends.s

    may : MayNoteAll x.shelf k begins from
    may = reads_begin terms log number x.shelf k x.moving it.woken begins s before it.wakes it.through.same few_noted

    at : StandsAt x.shelf k x0 s0
    at = all_stand rules own passed part part_heads it.woken.state.name.items x.shelf k begins from bytes may it.through.ends.holds.0 x0 s0 it.through.ends.bytes it.through.ends.holds.1

    first_rows : HasRows begins.state.cache from
    first_rows =
        subst (λ (m : Memory). HasRows m from) (sym (ap (λ (z : Sides). z.parts.cache) it.through.same.is ∙ woken_cache k x.moving.desk it.woken it.wakes))
        (owed_rows (ReadOf k) k x.moving.desk.state.cache s (shown number x.moving.desk.state.cache s before.stands.desk.turn.steps.shows.table.table))

    rows : HasRows x0.state.cache s0
    rows = rows_at it.through.ends.holds.0 it.woken.state.name.items x.shelf k begins from bytes x0 s0 it.through.ends.bytes first_rows it.through.ends.holds.1

    abbrev next : Both
    next = it.through.next

    -- behind all bytes
    abbrev then : State
    then = got (length bytes) k bytes from

    last : IsLedTo x0 next s0 then
    last = by it.through.ends.last
      where
        by : ((next ≡ x0) × (then ≡ s0)) ⊎ Stops it.woken.state.name.items x.shelf k x0 s0 it.through.ends.bytes next then → IsLedTo x0 next s0 then
        by (inl is) = still x0 next s0 then is.0 is.1
        by (inr is) = stopped it.woken.state.name.items x.shelf k x0 s0 it.through.ends.bytes next then is

    whole : IsLedTo x0 (both y.moving.desk) s0 led.handled.handled
    whole = then_ends x0 next (both y.moving.desk) s0 then led.handled.handled last it.through.behind it.through.law

    tied : IsTied y.moving.desk.state led.handled.handled
    tied = tied_behind x.shelf k x0 s0 at rows (both y.moving.desk) led.handled.handled whole other led.handled.stands.desk.turn.steps.shows.table.table

    evict : EvictAlike y.moving.desk.state led.handled.handled
    evict = evict_behind x.shelf k x0 s0 at rows (both y.moving.desk) led.handled.handled whole other led.handled.stands.desk.turn.steps.shows.table.table

    come_behind : ComesSo y.moving led.handled.handled
    come_behind = record { noted = tied.noted; leaves = record { forgotten = tied.leaves.forgotten; evicting = alike_leaves y.moving.desk.state y.moving.desk.state led.handled.handled refl evict } }

  pub reads_come_behind : ReadsComeBehind
  reads_come_behind terms log number other k bytes x y s before few led it = come_behind terms log number other k bytes x y s before few led it
