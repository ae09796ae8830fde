-- The laws: what followers ask for ends within the body, so that where a turn may end it is there or comes.
use Rattle.std.proofs.Common.{◌≡◌, refl, ℕ, Bool, true, false, List, [], ◌∷◌, find, Option, Some, None, sym, ap, ◌∙◌}
use Rattle.pp_law.specs.Connections.{close_conn, conn, each_conn, end_exchange, front_of_line, leave_place, lose_place, may_ask_again, on_client_of, on_conn, on_exchange}
use Rattle.pp_law.specs.Followers.{give_up_asks}
use Rattle.pp_law.specs.Phases.{in_phase}
use Rattle.pp_law.specs.Stages.{is_headed}
use Rattle.pp_law.specs.State.{State, Connecting, Client, Conn, Exchange, Instance, Reply, Stage, Undecided, Waiting, Passing, Answering}
use Rattle.pp_law.specs.Table.{Next, is_instance, next_from, next_of}
use Rattle.pp_law.specs.Unseen.{drop_on, drop_unseen, is_unseen}
use Rattle.pp_laws_decided.proofs.Laws.{turns_are_decided}
use Rattle.pp_laws_served.specs.Filling.{unseen_dropped}
use Rattle.pp_laws_turn.proofs.Cases.{each_of, when}
use Rattle.pp_laws_turn.proofs.View.{Holds, View, facts_of, holds}
use Rattle.pp_laws_left.specs.Filled.{FollowedAreWithin}
use Rattle.pp_laws_left.proofs.Keep.{FromClient, Keeps, facts_of as keeps_of, keeps_same}
use Rattle.pp_laws_left.proofs.KeepAsks.{give_up_asks-keeps}
use Rattle.pp_laws_left.proofs.KeepTurns.{drop_unseen-keeps, in_phase-keeps}
use Rattle.pp_laws_left.proofs.OwnedReplies.{each_exchange-holds}

-- ---- rows stay as they are where nothing is lost

abbrev RowsAre : List Instance → View → Type 0
RowsAre xs v = v.instances ≡ xs

leave_place-rows : (xs : List Instance) (e : Exchange) (s : State) → Holds (RowsAre xs) s → Holds (RowsAre xs) (leave_place e s)
unfolding leave_place end_exchange on_client_of on_exchange
leave_place-rows xs e s h = when (is_headed e) (holds (facts_of h)) (when (may_ask_again s e.number) (holds (facts_of h)) (holds (facts_of h)))

lose_place-rows : (xs : List Instance) (e : Exchange) (s : State) → Holds (RowsAre xs) s → Holds (RowsAre xs) (lose_place false e s)
unfolding lose_place
lose_place-rows xs e s h = leave_place-rows xs e s h

close_conn-rows : (xs : List Instance) (k : Conn) (s : State) → Holds (RowsAre xs) s → Holds (RowsAre xs) (close_conn false k s)
unfolding close_conn on_conn
close_conn-rows xs k s h = each_exchange-holds {P = RowsAre xs} (lose_place false) (λ e t i ht. lose_place-rows xs e t ht) k.line _ (holds (facts_of h))

drop_on-rows : (xs : List Instance) (k : Conn) (s : State) → Holds (RowsAre xs) s → Holds (RowsAre xs) (drop_on k s)
unfolding drop_on end_exchange
drop_on-rows xs k s h = each_of (front_of_line s k) h (λ e. when (is_unseen s k e) (close_conn-rows xs k _ (holds (facts_of h))) h)

each_conn-rows : (xs : List Instance) (ns : List ℕ) (s : State) → Holds (RowsAre xs) s → Holds (RowsAre xs) (each_conn drop_on ns s)
unfolding each_conn
each_conn-rows xs [] s h = h
each_conn-rows xs (n ∷ ns) s h = each_conn-rows xs ns _ (each_of (conn s n) h (λ k. drop_on-rows xs k s h))

unseen_rows : (s : State) → Holds (RowsAre s.instances) (unseen_dropped s)
unfolding drop_unseen give_up_asks
unseen_rows s = holds (facts_of (each_conn-rows s.instances _ (in_phase Connecting s) (holds refl)))

-- ---- what is followed

abbrev pub next_with : List Instance → Bool → Stage → Option Next
next_with xs closing g = elim closing as (λ x. Option Next) [
  | true ↦ None
  | false ↦ elim (elim g as (λ x. Option Reply) [ Undecided ↦ None | Waiting ↦ None | Passing ↦ None | Answering r ↦ Some r ]) as (λ x. Option Next) [
    | None ↦ None
    | Some r ↦ elim (elim r.source as (λ x. Option Instance) [ None ↦ None | Some id ↦ find (is_instance id) xs ]) as (λ x. Option Next) [ None ↦ None | Some x ↦ next_from x r ]
  ]
]

pub next_as : (s : State) (c : Client) → next_of s c ≡ next_with s.instances c.is_closing c.stage
next_as s c = refl

pub followed_are_within : FollowedAreWithin
followed_are_within terms s log obeys c n i is = ((turns_are_decided terms s log obeys).next w.was n w.there was).1
  where
    q : Keeps true s (unseen_dropped s)
    q = give_up_asks-keeps _ (drop_unseen-keeps _ (in_phase-keeps Connecting s (λ e. cc e) refl (keeps_same s)))

    w : FromClient true s.clients c
    w = (keeps_of q).clients_from c i

    by : (now before : Bool) → c.is_closing ≡ now → w.was.is_closing ≡ before → next_with s.instances now w.was.stage ≡ Some n → next_with s.instances before w.was.stage ≡ Some n
    by true before closing was_ at = absurd (cc at)
    by false false closing was_ at = at
    by false true closing was_ at = let both : true ≡ false = sym (w.is.closing was_) ∙ closing in absurd (cc both)

    was : next_of s w.was ≡ Some n
    was = by c.is_closing w.was.is_closing refl refl (ap (λ g. next_with s.instances c.is_closing g) (sym w.is.stage) ∙ ap (λ xs. next_with xs c.is_closing c.stage) (sym (facts_of (unseen_rows s))) ∙ is)
