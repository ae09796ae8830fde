-- A dial that is refused leaves what was asked for followers, or they ask anew.
use Rattle.std.proofs.Common.{◌≡◌, refl, ℕ, ◌+◌, Bool, true, false, not, ◌&&◌, ◌||◌, map, find, is_some, Option, Some, None, option_map, sym, subst, ap, ◌∙◌}
use Rattle.std.specs.List.{list_any}
use Rattle.pp_target.specs.Key.{text_of}
use Rattle.pp_law.specs.After.{refused_dial, undialled}
use Rattle.pp_law.specs.Connections.{AllPlaced, anew, Pause, WaitsDial, WaitsDrop, attempts_of, charge, end_exchange, give_up_row, is_exchange, is_for, is_trying, is_unfilled, lose_attempt, lost_one, may_ask_again, on_client_of, on_exchange, placing, without_row}
use Rattle.pp_law.specs.Followers.{fill}
use Rattle.pp_law.specs.Lists.{Bytes, change, is_some_with, is_this}
use Rattle.pp_law.specs.Stages.{filled_of, is_begun}
use Rattle.pp_law.specs.State.{State, Client, Course, Trying, OutOfTries, AskTooLong, RowRefused, Exchange, Instance}
use Rattle.pp_law.specs.Table.{Next, brings, is_provided, clear, displaced_by, instance, is_entry_of, is_instance, is_row_of, next_of, swept}
use Rattle.pp_laws.specs.Numbers.{AreDistinct}
use Rattle.pp_laws.specs.Runs.{IsIn}
use Rattle.pp_laws.proofs.Exchanges.{end_exchange-sound, lose_attempt-sound}
use Rattle.pp_laws.proofs.Lists.{Changed, changed_at, differ_change, in_change, in_filter, in_find, other, same}
use Rattle.pp_laws.proofs.Places.{placing-sound}
use Rattle.pp_laws.proofs.Sound.{FactsOf, Sound, client_number, facts_of as sound_facts, instance_id, sound}
use Rattle.pp_laws_bounds.proofs.Counts.{in_map_of}
use Rattle.pp_obeys.proofs.Frames.{Frame, frame, frame_of, stays}
use Rattle.pp_obeys.proofs.Obeying.{obeys_good}
use Rattle.pp_obeys.proofs.StaysTable.{end_exchange-stays, lose_attempt-stays, placing-stays}
use Rattle.pp_laws_ends.proofs.Ahead.{since}
use Rattle.pp_laws_ends.proofs.Nowhere.{find_mapped}
use Rattle.pp_laws_served.specs.Filling.{AreWithin, IsAsked, IsReady, RefusalsKeepReady, failed}
use Rattle.pp_laws_served.proofs.Asking.{filled_all, keyed_in}
use Rattle.pp_laws_served.proofs.Begins.{none_any}
use Rattle.pp_laws_served.proofs.Parts.{next_by, parts_of}
use Rattle.pp_laws_served.proofs.Ready.{placed_ready}
use Rattle.pp_laws_served.proofs.Shuts.{swept_asked}

-- ---- who asked for it stays

asked_changed : (q : State) (p : Client → Bool) (f : Client → Client) → ((c : Client) → (f c).number ≡ c.number) → ((c : Client) → next_of q (f c) ≡ next_of q c) → (d : Exchange) → IsAsked q d → IsAsked (record q { clients = change p f q.clients }) d
asked_changed q p f number next d a = by (p a.client) refl
  where
    at : IsIn (changed_at p f a.client) (change p f q.clients)
    at = in_map_of (changed_at p f) a.client q.clients a.there

    by : (b : Bool) → p a.client ≡ b → IsAsked (record q { clients = change p f q.clients }) d
    by true is = record {
      client = f a.client;
      there = subst (λ (b : Bool). IsIn (elim b as (λ y. Client) [ true ↦ f a.client | false ↦ a.client ]) (change p f q.clients)) is at;
      its = ap (λ n. is_this n d.asker) (number a.client) ∙ a.its;
      brings_it = ap (λ o. is_some_with (λ n. brings q n.source n.at d) o) (next a.client) ∙ a.brings_it;
    }
    by false is = record {
      client = a.client;
      there = subst (λ (b : Bool). IsIn (elim b as (λ y. Client) [ true ↦ f a.client | false ↦ a.client ]) (change p f q.clients)) is at;
      its = a.its;
      brings_it = a.brings_it;
    }

abbrev retire : Instance → Instance
retire x = record x { is_retired = true }

asked_cleared : (key : Bytes) (q : State) → AreDistinct (map instance_id q.instances) → (d : Exchange) → IsAsked q d → IsAsked (clear key q) d
unfolding clear
asked_cleared key q differ d a = swept_asked w (differ_change instance_id (is_row_of key) retire (λ x. refl) q.instances differ) d (by (next_of q a.client) refl a.brings_it)
  where
    w : State
    w = record q {
      instances = change (is_row_of key) (λ x. record x { is_retired = true }) q.instances;
      entries = change (is_entry_of key) (λ e. record e { is_stale = true }) q.entries;
      displaced = displaced_by key q;
    }

    same_one : (id : ℕ) (x : Instance) (b : Bool) → is_instance id (elim b as (λ y. Instance) [ true ↦ retire x | false ↦ x ]) ≡ is_instance id x
    same_one id x true = refl
    same_one id x false = refl

    same_bringing : (x : Instance) (at : ℕ) (b : Bool) → brings q (elim b as (λ y. Instance) [ true ↦ retire x | false ↦ x ]) at d ≡ brings q x at d
    same_bringing x at true = refl
    same_bringing x at false = refl

    by : (o : Option Next) → next_of q a.client ≡ o → is_some_with (λ n. brings q n.source n.at d) o ≡ true → IsAsked w d
    by None none at = absurd (cc at)
    by (Some n) some at =
        let p = parts_of q a.client n some in
        let found : instance w p.id ≡ Some (changed_at (is_row_of key) retire p.row) = find_mapped (is_instance p.id) (changed_at (is_row_of key) retire) (λ x. same_one p.id x (is_row_of key x)) q.instances ∙ ap (λ o. option_map (changed_at (is_row_of key) retire) o) p.there in
        record {
          client = a.client;
          there = a.there;
          its = a.its;
          brings_it = ap (λ o. is_some_with (λ (m : Next). brings q m.source m.at d) o) (next_by w a.client p.reply p.id (changed_at (is_row_of key) retire p.row) p.going p.is p.source found p.within)
              ∙ same_bringing p.row p.reply.at (is_row_of key p.row) ∙ ap (λ (m : Next). brings q m.source m.at d) p.next ∙ at;
        }

without_row-number : (c : Client) → (without_row c).number ≡ c.number
without_row-number c = by (is_begun c || c.has_given_up)
  where
    by : (b : Bool) → (elim b as (λ y. Client) [ true ↦ c | false ↦ record c { course = anew c.course; has_given_up = true } ]).number ≡ c.number
    by true = refl
    by false = refl

without_row-next : (q : State) (c : Client) → next_of q (without_row c) ≡ next_of q c
without_row-next q c = by (is_begun c || c.has_given_up)
  where
    by : (b : Bool) → next_of q (elim b as (λ y. Client) [ true ↦ c | false ↦ record c { course = anew c.course; has_given_up = true } ]) ≡ next_of q c
    by true = refl
    by false = refl

module _ (e : Exchange) (q : State) where
  costs : (d : Exchange) → IsAsked q d → IsAsked (on_client_of e (λ c. record c { course = lost_one (attempts_of e) c.course }) q) d
  unfolding on_client_of
  costs d a = asked_changed q (is_for e) (λ c. record c { course = lost_one (attempts_of e) c.course }) (λ c. refl) (λ c. refl) d a

  lost_asked : AreDistinct (map instance_id q.instances) → (d : Exchange) → IsAsked q d → IsAsked (lose_attempt e q) d
  unfolding lose_attempt charge give_up_row on_exchange on_client_of
  lost_asked differ d a = by (is_unfilled (on_client_of e (λ c. record c { course = lost_one (attempts_of e) c.course }) q) e) (costs d a)
    where
      r : State
      r = record q { clients = change (is_for e) (λ c. record c { course = lost_one (attempts_of e) c.course }) q.clients }

      by : (b : Bool) → IsAsked (record q { clients = change (is_for e) (λ c. record c { course = lost_one (attempts_of e) c.course }) q.clients }) d
          → IsAsked (elim b as (λ y. State) [ false ↦ record q { clients = change (is_for e) (λ c. record c { course = lost_one (attempts_of e) c.course }) q.clients } | true ↦ on_exchange e.number (λ x. record x { asker = None }) (on_client_of e without_row (clear (text_of e.key) (record q { clients = change (is_for e) (λ c. record c { course = lost_one (attempts_of e) c.course }) q.clients }))) ]) d
      by false k = k
      by true k =
          let z = asked_changed (clear (text_of e.key) r) (is_for e) without_row without_row-number (without_row-next (clear (text_of e.key) r)) d (asked_cleared (text_of e.key) r differ d k) in
          record { client = z.client; there = z.there; its = z.its; brings_it = z.brings_it }

  -- ---- and that it was there

  lost_there : (d : Exchange) → IsIn d (lose_attempt e q).exchanges → is_exchange e.number d ≡ false → IsIn d q.exchanges
  unfolding lose_attempt charge give_up_row on_exchange on_client_of clear swept
  lost_there d i off = by (is_unfilled (on_client_of e (λ c. record c { course = lost_one (attempts_of e) c.course }) q) e) i
    where
      by : (b : Bool) → IsIn d (elim b as (λ y. State) [ false ↦ record q { clients = change (is_for e) (λ c. record c { course = lost_one (attempts_of e) c.course }) q.clients } | true ↦ on_exchange e.number (λ x. record x { asker = None }) (on_client_of e without_row (clear (text_of e.key) (record q { clients = change (is_for e) (λ c. record c { course = lost_one (attempts_of e) c.course }) q.clients }))) ]).exchanges → IsIn d q.exchanges
      by false j = j
      by true j = of (in_change (is_exchange e.number) (λ x. record x { asker = None }) d q.exchanges j)
        where
          of : Changed (is_exchange e.number) (λ x. record x { asker = None }) q.exchanges d → IsIn d q.exchanges
          of (same k isnt) = k
          of (other x k hit eq) = let both : true ≡ false = sym hit ∙ sym (ap (is_exchange e.number) eq) ∙ off in absurd (cc both)

  -- ---- it is asked again

  tried : (most : ℕ) (course : Course) → is_trying (lost_one most course) ≡ true → is_trying course ≡ true
  tried most (Trying n) is = refl
  tried most OutOfTries is = absurd (cc is)
  tried most AskTooLong is = absurd (cc is)
  tried most RowRefused is = absurd (cc is)

  cost_ready : IsReady q → IsReady (record q { clients = change (is_for e) (λ c. record c { course = lost_one (attempts_of e) c.course }) q.clients })
  unfolding on_client_of
  cost_ready h = record {
    filled = λ c n i is tries stands_it. by c n (in_change (is_for e) (λ d. record d { course = lost_one (attempts_of e) d.course }) c q.clients i) is tries stands_it;
    asked = λ d i none fills_it. asked_changed q (is_for e) (λ c. record c { course = lost_one (attempts_of e) c.course }) (λ c. refl) (λ c. refl) d (h.asked d i none fills_it);
  }
    where
      by : (c : Client) (n : Next) → Changed (is_for e) (λ d. record d { course = lost_one (attempts_of e) d.course }) q.clients c → next_of q c ≡ Some n → is_trying c.course ≡ true → n.source.is_retired ≡ false → is_provided q n ≡ true
      by c n (same i isnt) is tries stands_it = h.filled c n i is tries stands_it
      by c n (other d i hit eq) is tries stands_it = h.filled d n i (sym (ap (next_of q) eq) ∙ is) (tried (attempts_of e) d.course (sym (ap (λ (y : Client). is_trying y.course) eq) ∙ tries)) stands_it

never_again : (n : ℕ) (s : State) → may_ask_again (on_exchange n (λ x. record x { asker = None }) s) n ≡ false
unfolding on_exchange
never_again n s = by (find (is_exchange n) s.exchanges) refl
  where
    left : Exchange → Exchange
    left x = record x { asker = None }

    alike : (x : Exchange) (b : Bool) → is_exchange n (elim b as (λ y. Exchange) [ true ↦ record x { asker = None } | false ↦ x ]) ≡ is_exchange n x
    alike x true = refl
    alike x false = refl

    found : (o : Option Exchange) → find (is_exchange n) s.exchanges ≡ o → find (is_exchange n) (change (is_exchange n) (λ x. record x { asker = None }) s.exchanges) ≡ option_map (changed_at (is_exchange n) (λ x. record x { asker = None })) o
    found o is = find_mapped (is_exchange n) (changed_at (is_exchange n) (λ x. record x { asker = None })) (λ x. alike x (is_exchange n x)) s.exchanges ∙ ap (λ y. option_map (changed_at (is_exchange n) (λ x. record x { asker = None })) y) is

    nobodys : (x : Exchange) → list_any (λ (c : Client). is_for (record x { asker = None }) c && is_trying c.course) s.clients ≡ false
    nobodys x = none_any (λ (c : Client). is_for (record x { asker = None }) c && is_trying c.course) s.clients (λ c i hit. cc hit)

    by : (o : Option Exchange) → find (is_exchange n) s.exchanges ≡ o → is_some_with (λ d. list_any (λ c. is_for d c && is_trying c.course) s.clients) (find (is_exchange n) (change (is_exchange n) (λ x. record x { asker = None }) s.exchanges)) ≡ false
    by None none = ap (λ y. is_some_with (λ d. list_any (λ c. is_for d c && is_trying c.course) s.clients) y) (found None none)
    by (Some x) some =
        ap (λ y. is_some_with (λ d. list_any (λ c. is_for d c && is_trying c.course) s.clients) y) (found (Some x) some)
        ∙ ap (λ b. list_any (λ (c : Client). is_for (elim b as (λ y. Exchange) [ true ↦ record x { asker = None } | false ↦ x ]) c && is_trying c.course) s.clients) (in_find (is_exchange n) x s.exchanges some).1
        ∙ nobodys x

ready_again : (e : Exchange) (q : State) → IsReady q → may_ask_again (lose_attempt e q) e.number ≡ true → IsReady (lose_attempt e q)
unfolding lose_attempt charge give_up_row on_client_of
ready_again e q h again = by (is_unfilled (on_client_of e (λ c. record c { course = lost_one (attempts_of e) c.course }) q) e) again
  where
    by : (b : Bool)
        → may_ask_again (elim b as (λ y. State) [ false ↦ record q { clients = change (is_for e) (λ c. record c { course = lost_one (attempts_of e) c.course }) q.clients } | true ↦ on_exchange e.number (λ x. record x { asker = None }) (on_client_of e without_row (clear (text_of e.key) (record q { clients = change (is_for e) (λ c. record c { course = lost_one (attempts_of e) c.course }) q.clients }))) ]) e.number ≡ true
        → IsReady (elim b as (λ y. State) [ false ↦ record q { clients = change (is_for e) (λ c. record c { course = lost_one (attempts_of e) c.course }) q.clients } | true ↦ on_exchange e.number (λ x. record x { asker = None }) (on_client_of e without_row (clear (text_of e.key) (record q { clients = change (is_for e) (λ c. record c { course = lost_one (attempts_of e) c.course }) q.clients }))) ])
    by false at = cost_ready e q h
    by true at = let both : true ≡ false = sym at ∙ never_again e.number _ in absurd (cc both)

-- ---- or whoever waited for it asks anew

runs_on : (e : Exchange) (s : State) → (end_exchange e.number (lose_attempt e (failed (placing s).state))).is_stopped ≡ s.is_stopped
runs_on e s =
    ap (λ (o : Frame). o.is_stopped) (frame_of (end_exchange-stays {all = true} {o = frame true (failed (placing s).state)} e.number _ (lose_attempt-stays e _ (stays refl))))
    ∙ ap (λ (o : Frame). o.is_stopped) (frame_of (placing-stays {all = true} {o = frame true s} s (stays refl)))

ended_asked : (n : ℕ) (s : State) (d : Exchange) → (IsIn d s.exchanges → is_exchange n d ≡ false → IsAsked s d) → IsIn d (end_exchange n s).exchanges → IsAsked (end_exchange n s) d
unfolding end_exchange
ended_asked n s d asked i =
    let w = in_filter (λ x. not (is_exchange n x)) d s.exchanges i in
    let a = asked w.0 (off (is_exchange n d) w.1) in
    record { client = a.client; there = a.there; its = a.its; brings_it = a.brings_it }
  where
    off : (b : Bool) → not b ≡ true → b ≡ false
    off true is = absurd (cc is)
    off false is = refl

asks_anew : (e : Exchange) (q : State) → Sound since q → IsReady q → AreWithin (end_exchange e.number (lose_attempt e q)) → (end_exchange e.number (lose_attempt e q)).is_stopped ≡ false → IsReady (fill (end_exchange e.number (lose_attempt e q)))
asks_anew e q so h within runs = filled_all v runs (record {
  named = λ c i. in_map_of client_number c v.clients i;
  rise = f.callers.rise;
  keyed = keyed_in v f within;
  unbound = λ d i none. f.asks.unplaced d i none;
  asked = asked_there;
  filled = λ c n i j. absurd j;
})
  where
    v : State
    v = end_exchange e.number (lose_attempt e q)

    f : FactsOf since (end_exchange e.number (lose_attempt e q))
    f = sound_facts (end_exchange-sound e.number _ (lose_attempt-sound e q so))

    asked_there : (d : Exchange) → IsIn d (end_exchange e.number (lose_attempt e q)).exchanges → d.place ≡ None → is_some (filled_of d) ≡ true → IsAsked (end_exchange e.number (lose_attempt e q)) d
    asked_there d i none fills_it = ended_asked e.number (lose_attempt e q) d (λ j off. lost_asked e q (sound_facts so).rows.differ d (h.asked d (lost_there e q d j off) none fills_it)) i

refused_ready : (e : Exchange) (q : State) → Sound since q → IsReady q → AreWithin (end_exchange e.number (lose_attempt e q)) → (end_exchange e.number (lose_attempt e q)).is_stopped ≡ false → IsReady (refused_dial e (lose_attempt e q))
unfolding refused_dial
refused_ready e q so h within runs = by (may_ask_again (lose_attempt e q) e.number) refl
  where
    by : (b : Bool) → may_ask_again (lose_attempt e q) e.number ≡ b → IsReady (elim b as (λ y. State) [ true ↦ lose_attempt e q | false ↦ fill (end_exchange e.number (lose_attempt e q)) ])
    by true again = ready_again e q h again
    by false over = asks_anew e q so h within runs

failed_ready : (s : State) → IsReady s → IsReady (failed s)
failed_ready s h = record { filled = h.filled; asked = λ e i none fills_it. let w = h.asked e i none fills_it in record { client = w.client; there = w.there; its = w.its; brings_it = w.brings_it } }

pub refusals_keep : RefusalsKeepReady
unfolding undialled
refusals_keep terms s log obeys runs within ready = by (placing s).pause
  where
    placed : IsReady (placing s).state
    placed = placed_ready s ready

    so : Sound since (failed (placing s).state)
    so = sound (sound_facts (placing-sound s (obeys_good obeys).sound))

    by : (o : Pause) → IsReady (elim o as (λ y. State) [
      | AllPlaced ↦ (placing s).state
      | WaitsDrop k e ↦ (placing s).state
      | WaitsDial e ↦ refused_dial e (lose_attempt e (record (placing s).state { failures = (placing s).state.failures + 1 }))
    ])
    by AllPlaced = placed
    by (WaitsDrop k e) = placed
    by (WaitsDial e) = refused_ready e (failed (placing s).state) so (failed_ready (placing s).state placed) (within e) (runs_on e s ∙ runs)
