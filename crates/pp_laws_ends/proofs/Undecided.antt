-- Where a turn may end, a request that is not decided shares what another asked for.
use Rattle.std.proofs.Common.{◌≡◌, ◌⊎◌, refl, ℕ, ◌-◌, Bool, true, false, not, ◌==◌, ◌&&◌, ◌||◌, nat_lt, List, [], ◌∷◌, map, find, is_some, Option, Some, None, option_map, inl, inr, sym, subst, ap, ap₂, ◌∙◌}
use Rattle.std.specs.List.{list_any}
use Rattle.pp_target.specs.Key.{Key, text_of}
use Rattle.pp_world.specs.Log.{Log}
use Rattle.pp_world.specs.declared.note.Cause.{Cause}
use Rattle.pp_world.specs.declared.note.Decision.{Decision}
use Rattle.pp_world.specs.declared.note.Decision.TheVariants.{Refuse}
use Rattle.pp_law.specs.Closing.{forsake, left_alone}
use Rattle.pp_law.specs.Connections.{on_conn, on_exchange, placing, put_on}
use Rattle.pp_law.specs.Decisions.{decide, decide_head}
use Rattle.pp_law.specs.Due.{Due, CutOff, Decide, due_by_stage, due_cut, due_decision, due_of, first_due, give_up, is_told, due_reply}
use Rattle.pp_law.specs.Lists.{Bytes, first_some}
use Rattle.pp_law.specs.Offers.{has_to_say}
use Rattle.pp_law.specs.Opening.{is_at, is_same_phase}
use Rattle.pp_law.specs.Phases.{behind, come, come_to, ending, in_phase, is_done, is_done_with, is_placed, may_end, next, phases}
use Rattle.pp_law.specs.Replies.{begin_replies, begun_at_end, is_outrun}
use Rattle.pp_law.specs.Requests.{Front, NoHeadYet, NoHead, IsRequest, has_request, key_in}
use Rattle.pp_law.specs.Served.{is_waiting, wants_read, wants_write}
use Rattle.pp_law.specs.Sharing.{due_first, due_undecided, has_shared_ask, is_patient, is_shared, is_sharing, may_share, shared_ask}
use Rattle.pp_law.specs.Stages.{is_begun, is_headed, is_undecided}
use Rattle.pp_law.specs.State.{State, Term, Shared, Phase, Before, IsWoken, IsConfigured, IsRooted, IsListed, IsListening, IsStuck, Awaiting, Handling, Evicting, Keeping, Deciding, Following, Connecting, DecidingAgain, Client, Exchange, Stage, Undecided, Waiting, Passing, Answering}
use Rattle.pp_law.specs.Table.{swept}
use Rattle.pp_law.specs.Turn.{waits_for, waits_for_exchange}
use Rattle.pp_laws.specs.Runs.{IsIn, state_after}
use Rattle.pp_laws.proofs.Lists.{From, changed_at}
use Rattle.pp_laws.proofs.Tests.{second_holds}
use Rattle.pp_laws_bounds.proofs.Places.{placing-any}
use Rattle.pp_obeys.specs.Obeys.{Obeys}
use Rattle.pp_obeys.proofs.Come.{next-phase, onward}
use Rattle.pp_obeys.proofs.Settled.{at_phase}
use Rattle.pp_obeys.proofs.Frames.{Frame}
use Rattle.pp_obeys.proofs.Silent.{both_hold}
use Rattle.pp_obeys.proofs.StaysTurns.{next-frame}
use Rattle.pp_laws_turn.proofs.Lifts.{obeying}
use Rattle.pp_laws_ends.specs.Ends.{AllStand, HasNotEnded, IsClientServed, UndecidedAreServed, wants_of}
use Rattle.pp_laws_ends.proofs.Ahead.{begun_clients, begun_or, or_second}
use Rattle.pp_laws_ends.proofs.Nowhere.{chosen, find_mapped}
use Rattle.pp_laws_ends.proofs.Served.{speaks}
use Rattle.pp_laws_ends.proofs.Standing.{all_stand}

-- ---- as a turn comes to its end nobody is closing

abbrev none_closes : State → Bool
none_closes s = not (list_any (λ (c : Client). c.is_closing) s.clients)

abbrev EndsOpen : State → Type 0
EndsOpen s = s.phase ≡ DecidingAgain → none_closes s ≡ true

put_open : (n k : ℕ) (t : State) → none_closes t ≡ true → none_closes (put_on n k t) ≡ true
unfolding put_on on_conn on_exchange
put_open n k t is = is

placed_open : (s : State) → none_closes s ≡ true → none_closes (placing s).state ≡ true
placed_open s h = placing-any (λ t. none_closes t ≡ true) put_open s h

neither : (a b c : Bool) → (not (a || b) && c) ≡ true → not a ≡ true
neither true b c is = absurd (cc is)
neither false b c is = refl

behind_open : (p : Phase) (s : State) → s.phase ≡ p → is_done s ≡ true → EndsOpen s → onward p ≡ DecidingAgain → none_closes (behind p s) ≡ true
behind_open Before s is done here at = absurd (cc at)
behind_open IsWoken s is done here at = absurd (cc at)
behind_open IsConfigured s is done here at = absurd (cc at)
behind_open IsRooted s is done here at = absurd (cc at)
behind_open IsListed s is done here at = absurd (cc at)
behind_open IsListening s is done here at = absurd (cc at)
behind_open IsStuck s is done here at = absurd (cc at)
behind_open Awaiting s is done here at = absurd (cc at)
behind_open Handling s is done here at = absurd (cc at)
behind_open Evicting s is done here at = absurd (cc at)
behind_open Keeping s is done here at = absurd (cc at)
behind_open Deciding s is done here at = absurd (cc at)
behind_open Following s is done here at = absurd (cc at)
behind_open Connecting s is done here at =
    placed_open (in_phase DecidingAgain s)
    (neither (list_any (λ (c : Client). c.is_closing) s.clients) (list_any (λ k. k.is_closing) s.conns) (is_placed (placing s).pause) (sym (ap (λ (q : Phase). is_done_with q s) is) ∙ done))
behind_open DecidingAgain s is done here at = here is

next_open : (s : State) → is_done s ≡ true → EndsOpen s → EndsOpen (next s)
unfolding next
next_open s done here at = behind_open s.phase s refl done here (sym (next-phase s) ∙ at)

open_when : (t : Bool) (x y : State) → (t ≡ true → EndsOpen x) → EndsOpen y → EndsOpen (elim t as (λ c. State) [ true ↦ x | false ↦ y ])
open_when true x y hx hy = hx refl
open_when false x y hx hy = hy

come_open : (stops : State → Bool) (ps : List Phase) (s : State) → EndsOpen s → EndsOpen (come stops ps s)
unfolding come
come_open stops [] s h = h
come_open stops (p ∷ ps) s h = come_open stops ps _ (open_when (is_at p s) _ s (λ at. open_when (stops s) s _ (λ is. h) (open_when (is_done s) (next s) s (λ done. next_open s done h) h)) h)

come_to_open : (phase : Phase) (s : State) → EndsOpen s → EndsOpen (come_to phase s)
unfolding come_to
come_to_open phase s h = come_open (is_at phase) phases s h

none_in : (cs : List Client) (c : Client) → not (list_any (λ (d : Client). d.is_closing) cs) ≡ true → IsIn c cs → c.is_closing ≡ false
none_in [] c none i = absurd i
none_in (d ∷ ds) c none i = by d.is_closing refl none i (none_in ds c)
  where
    by : (t : Bool) → d.is_closing ≡ t → not (t || list_any (λ (x : Client). x.is_closing) ds) ≡ true → (c ≡ d) ⊎ IsIn c ds → (not (list_any (λ (x : Client). x.is_closing) ds) ≡ true → IsIn c ds → c.is_closing ≡ false) → c.is_closing ≡ false
    by true is at j rest = absurd (cc at)
    by false isnt at (inl eq) rest = ap (λ (x : Client). x.is_closing) eq ∙ isnt
    by false isnt at (inr j) rest = rest at j

-- ---- nothing is due

-- what holds where a turn may end
pub record Ends (t : State) : Type 0 where
  pub none : (c : Client) → IsIn c t.clients → due_of t c ≡ None
  pub going : (c : Client) → IsIn c t.clients → c.is_closing ≡ false
  pub runs : t.is_stopped ≡ false

none_first : (t : State) (cs : List Client) → first_some (due_of t) cs ≡ None → (c : Client) → IsIn c cs → due_of t c ≡ None
none_first t [] none c i = absurd i
none_first t (d ∷ ds) none c i = by (due_of t d) refl none i (λ rest j. none_first t ds rest c j)
  where
    by : (o : Option Due) → due_of t d ≡ o → (elim o as (λ x. Option Due) [ Some y ↦ Some y | None ↦ first_some (due_of t) ds ]) ≡ None → (c ≡ d) ⊎ IsIn c ds → (first_some (due_of t) ds ≡ None → IsIn c ds → due_of t c ≡ None) → due_of t c ≡ None
    by (Some y) is at j rest = absurd (cc at)
    by None is at (inl eq) rest = ap (due_of t) eq ∙ is
    by None is at (inr j) rest = rest at j

nothing : (o : Option Due) → not (is_some o) ≡ true → o ≡ None
nothing None is = refl
nothing (Some d) is = absurd (cc is)

undue : (t : State) (c : Client) → due_of t c ≡ None → due_decision t c ≡ None
undue t c none = by (due_cut t c) (due_decision t c) none
  where
    by : (o : Option Cause) (p : Option Decision) → (elim o as (λ x. Option Due) [ Some cause ↦ Some (CutOff c.number cause) | None ↦ elim p as (λ x. Option Due) [ Some d ↦ Some (Decide c.number c.index d) | None ↦ None ] ]) ≡ None → p ≡ None
    by (Some cause) p at = absurd (cc at)
    by None None at = refl
    by None (Some d) at = absurd (cc at)

pub none_by_stage : (t : State) (c : Client) → t.is_stopped ≡ false → c.is_closing ≡ false → due_of t c ≡ None → due_by_stage t c ≡ None
none_by_stage t c runs going none =
    sym (ap₂ (λ (a b : Bool). elim (a || b) as (λ x. Option Decision) [ true ↦ None | false ↦ due_by_stage t c ]) going runs) ∙ undue t c none

-- ---- so it shares

pub decides_some : (s : State) (c : Client) → has_request c.front ≡ true → decide s c ≡ None → ⊥
decides_some s c has none = by c.front has none
  where
    by : (f : Front) → has_request f ≡ true → (elim f as (λ x. Option Decision) [ NoHeadYet ↦ None | NoHead status ↦ Some (Refuse status) | IsRequest r ↦ Some (decide_head s c r) ]) ≡ None → ⊥
    by NoHeadYet at is = cc at
    by (NoHead status) at is = cc is
    by (IsRequest r) at is = cc is

undecided_so : (stage : Stage) → is_undecided stage ≡ true → stage ≡ Undecided
undecided_so Undecided is = refl
undecided_so Waiting is = absurd (cc is)
undecided_so Passing is = absurd (cc is)
undecided_so (Answering r) is = absurd (cc is)

has_shared : (t : State) (c : Client) → has_request c.front ≡ true → due_undecided t c ≡ None → has_shared_ask t c ≡ true
has_shared t c has none = by c.waits_on none
  where
    waited : (w : Shared) (b : Bool) → is_patient t w ≡ b → (elim b as (λ x. Option Decision) [ true ↦ None | false ↦ decide t c ]) ≡ None → is_patient t w ≡ true
    waited w true is at = is
    waited w false isnt at = absurd (decides_some t c has at)

    shares : (d : Decision) (b : Bool) → (t.settings.shares_fetches && may_share d && is_some (shared_ask t c)) ≡ b → (elim b as (λ x. Option Decision) [ true ↦ None | false ↦ Some d ]) ≡ None → is_some (shared_ask t c) ≡ true
    shares d true is at = second_holds (t.settings.shares_fetches && may_share d) (is_some (shared_ask t c)) is
    shares d false isnt at = absurd (cc at)

    first : (o : Option Decision) → decide t c ≡ o → (elim o as (λ x. Option Decision) [ None ↦ None | Some d ↦ due_first t c d ]) ≡ None → is_some (shared_ask t c) ≡ true
    first None is at = absurd (decides_some t c has is)
    first (Some d) is at = shares d (t.settings.shares_fetches && may_share d && is_some (shared_ask t c)) refl at

    by : (o : Option Shared)
        → (elim o as (λ x. Option Decision) [
          | Some w ↦ elim (is_patient t w) as (λ x. Option Decision) [ true ↦ None | false ↦ decide t c ]
          | None ↦ elim (decide t c) as (λ x. Option Decision) [ None ↦ None | Some d ↦ due_first t c d ]
        ]) ≡ None → (elim o as (λ x. Bool) [ Some w ↦ is_patient t w | None ↦ is_some (shared_ask t c) ]) ≡ true
    by None at = first (decide t c) refl at
    by (Some w) at = waited w (is_patient t w) refl at

shares_so : (t : State) (c : Client) → is_undecided c.stage ≡ true → has_request c.front ≡ true → has_shared_ask t c ≡ true → is_sharing t c ≡ true
shares_so t c undecided has shared =
    ap (λ b. elim b as (λ x. Bool) [ true ↦ has_request c.front && has_shared_ask t c | false ↦ false ]) undecided ∙ both_hold (has_request c.front) (has_shared_ask t c) has shared

shares_at : (t : State) → Ends t → (c : Client) → IsIn c t.clients → is_undecided c.stage ≡ true → has_request c.front ≡ true → has_shared_ask t c ≡ true
shares_at t h c i undecided has =
    has_shared t c has
    (sym (ap (λ (stage : Stage). elim stage as (λ x. Option Decision) [
      | Undecided ↦ due_undecided t c
      | Waiting ↦ give_up c.course (elim (is_told c.brought) as (λ x. Option Decision) [ true ↦ decide t c | false ↦ None ])
      | Passing ↦ give_up c.course None
      | Answering r ↦ due_reply t c r
    ]) (undecided_so c.stage undecided)) ∙ none_by_stage t c h.runs (h.going c i) (h.none c i))

-- ---- and where replies have begun too

any_mapped : {A : Type 0} (p : A → Bool) (f : A → A) → ((x : A) → p (f x) ≡ p x) → (xs : List A) → list_any p (map f xs) ≡ list_any p xs
any_mapped p f alike [] = refl
any_mapped p f alike (x ∷ xs) = ap₂ (λ (a b : Bool). a || b) (alike x) (any_mapped p f alike xs)

some_mapped : (f : Exchange → Exchange) (o : Option Exchange) → is_some (option_map (λ (e : Exchange). e.number) (option_map f o)) ≡ is_some (option_map (λ (e : Exchange). e.number) o)
some_mapped f None = refl
some_mapped f (Some e) = refl

asked_still : (t : State) (o : Option Key) (f : Exchange → Exchange) → ((key : Bytes) (e : Exchange) → is_shared key (f e) ≡ is_shared key e)
    → is_some (elim o as (λ x. Option ℕ) [ None ↦ None | Some key ↦ option_map (λ (e : Exchange). e.number) (find (is_shared (text_of key)) (map f t.exchanges)) ])
    ≡ is_some (elim o as (λ x. Option ℕ) [ None ↦ None | Some key ↦ option_map (λ (e : Exchange). e.number) (find (is_shared (text_of key)) t.exchanges) ])
asked_still t None f alike = refl
asked_still t (Some key) f alike =
    ap (λ o. is_some (option_map (λ (e : Exchange). e.number) o)) (find_mapped (is_shared (text_of key)) f (λ e. alike (text_of key) e) t.exchanges)
    ∙ some_mapped f (find (is_shared (text_of key)) t.exchanges)

shared_still : (t : State) (c : Client) → has_shared_ask (begin_replies t) c ≡ has_shared_ask t c
unfolding begin_replies swept forsake
shared_still t c = by c.waits_on
  where
    left : Exchange → Exchange
    left = changed_at (is_outrun t) left_alone

    awaited : (n : ℕ) → list_any (λ (e : Exchange). (e.number == n) && not (is_headed e)) (map left t.exchanges) ≡ list_any (λ (e : Exchange). (e.number == n) && not (is_headed e)) t.exchanges
    awaited n = any_mapped (λ (e : Exchange). (e.number == n) && not (is_headed e)) left (λ e. chosen (λ (x : Exchange). (x.number == n) && not (is_headed x)) (is_outrun t e) (left_alone e) e _ refl refl) t.exchanges

    by : (o : Option Shared) → (elim o as (λ x. Bool) [ Some w ↦ is_patient (begin_replies t) w | None ↦ is_some (shared_ask (begin_replies t) c) ]) ≡ (elim o as (λ x. Bool) [ Some w ↦ is_patient t w | None ↦ is_some (shared_ask t c) ])
    by (Some w) = ap (λ b. b && nat_lt (t.clock - w.since) 5) (awaited w.exchange)
    by None = asked_still t (key_in c.front) left (λ key e. chosen (λ (x : Exchange). is_shared key x) (is_outrun t e) (left_alone e) e (is_shared key e) refl refl)

begun_decided_so : (stage : Stage) → is_undecided stage ≡ true → (c : Client) → c.stage ≡ stage → is_begun c ≡ true → ⊥
begun_decided_so stage undecided c is begun = by c.stage (ap is_undecided is ∙ undecided) begun
  where
    by : (s : Stage) → is_undecided s ≡ true → is_begun (record c { stage = s }) ≡ true → ⊥
    by Undecided u b = cc b
    by Waiting u b = cc u
    by Passing u b = cc u
    by (Answering r) u b = cc u

shares_begun : (t : State) → Ends t → (c : Client) → IsIn c (begin_replies t).clients → is_undecided c.stage ≡ true → has_request c.front ≡ true → is_sharing (begin_replies t) c ≡ true
shares_begun t h c i undecided has = shares_so (begin_replies t) c undecided has (shared_still t c ∙ from (begun_clients t c i))
  where
    from : From (begun_at_end t) t.clients c → has_shared_ask t c ≡ true
    from w = by (begun_or t w.was)
      where
        by : (begun_at_end t w.was ≡ w.was) ⊎ (is_begun (begun_at_end t w.was) ≡ true) → has_shared_ask t c ≡ true
        by (inl stays) = shares_at t h c (subst (λ (d : Client). IsIn d t.clients) (sym (w.is ∙ stays)) w.there) undecided has
        by (inr begun) = absurd (begun_decided_so c.stage undecided c refl (ap is_begun w.is ∙ begun))

-- ---- where a turn may end

gate : (t done : Bool) → (elim t as (λ c. Bool) [ true ↦ done | false ↦ false ]) ≡ true → (t ≡ true) × (done ≡ true)
gate true done is = (refl, is)
gate false done is = absurd (cc is)

start_open : (s : State) → is_at DecidingAgain s ≡ false → EndsOpen s
start_open s isnt at = let both : true ≡ false = sym (ap (is_same_phase DecidingAgain) at) ∙ isnt in absurd (cc both)

next_runs : (s : State) → (next s).is_stopped ≡ s.is_stopped
next_runs s = ap (λ (o : Frame). o.is_stopped) (next-frame true s)

runs_when : (t b : Bool) (x y : State) → x.is_stopped ≡ b → y.is_stopped ≡ b → (elim t as (λ c. State) [ true ↦ x | false ↦ y ]).is_stopped ≡ b
runs_when true b x y hx hy = hx
runs_when false b x y hx hy = hy

come_runs : (stops : State → Bool) (ps : List Phase) (s : State) → (come stops ps s).is_stopped ≡ s.is_stopped
unfolding come
come_runs stops [] s = refl
come_runs stops (p ∷ ps) s = come_runs stops ps _ ∙ runs_when (is_at p s) s.is_stopped _ s (runs_when (stops s) s.is_stopped s _ refl (runs_when (is_done s) s.is_stopped (next s) s (next_runs s) refl)) refl

come_to_runs : (phase : Phase) (s : State) → (come_to phase s).is_stopped ≡ s.is_stopped
unfolding come_to
come_to_runs phase s = come_runs (is_at phase) phases s

pub ends_at : (terms : List Term) (s : State) (log : Log) → Obeys terms s log → HasNotEnded terms log → may_end s ≡ true → s.is_stopped ≡ false → Ends (come_to DecidingAgain s)
ends_at terms s log obeys isnt may runs = record {
  none = λ c i. none_first t t.clients (nothing (first_due t) (sym (ap (λ (q : Phase). is_done_with q t) at) ∙ w.1)) c i;
  going = λ c i. none_in t.clients c (come_to_open DecidingAgain s (obeying EndsOpen next_open terms s log obeys (start_open (state_after terms log) isnt)) at) i;
  runs = come_to_runs DecidingAgain s ∙ runs;
}
  where
    t : State
    t = come_to DecidingAgain s

    w : (is_at DecidingAgain t ≡ true) × (is_done t ≡ true)
    w = gate (is_at DecidingAgain t) (is_done t) may

    at : t.phase ≡ DecidingAgain
    at = at_phase DecidingAgain t w.0

undecided_shares : (s : State) → Ends (come_to DecidingAgain s) → (c : Client) → IsIn c (ending s).clients → is_undecided c.stage ≡ true → has_request c.front ≡ true → is_sharing (ending s) c ≡ true
unfolding ending
undecided_shares s h c i undecided has = shares_begun (come_to DecidingAgain s) h c i undecided has

pub waits_so : (u : State) → AllStand u → (c : Client) → IsIn c u.clients → waits_for_exchange u c ≡ true → IsClientServed u c
waits_so u h c i waits = by (has_to_say u c) refl
  where
    silent : has_to_say u c ≡ false → (not (wants_write (wants_of u) c.number) && is_waiting u (wants_of u) c) ≡ true
    silent isnt =
        both_hold (not (wants_write (wants_of u) c.number)) (is_waiting u (wants_of u) c) (ap not ((h.clients c i).1 ∙ isnt))
        (or_second (not (has_request c.front) && wants_read (wants_of u) c.number) (waits_for_exchange u c) waits)

    by : (t : Bool) → has_to_say u c ≡ t → IsClientServed u c
    by true says = speaks u h c i says
    by false isnt =
        ap (λ b. elim b as (λ x. Bool) [ true ↦ wants_write (wants_of u) c.number | false ↦ not (wants_write (wants_of u) c.number) && is_waiting u (wants_of u) c ]) isnt
        ∙ silent isnt

pub undecided_served : UndecidedAreServed
undecided_served terms s log obeys isnt may runs c i undecided has =
    waits_so (ending s) (all_stand terms s log obeys) c i
    (or_second (list_any (waits_for (ending s) c) (ending s).exchanges) (is_sharing (ending s) c) (undecided_shares s (ends_at terms s log obeys isnt may runs) c i undecided has))
