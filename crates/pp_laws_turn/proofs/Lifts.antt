-- What each phase that is done keeps is met some phases on.
use Rattle.std.proofs.Common.{◌≡◌, ◌⊎◌, refl, ℕ, zero, suc, ◌*◌, ◌+◌, ◌/◌, ◌≤◌, nat_lt, Bool, true, false, not, ◌||◌, List, [], ◌∷◌, ◌++◌, map, filter, filter_map, flat_map, cond, length, is_some, Option, Some, None, inl, inr, sym, subst, ap, ◌∙◌, le_refl, le_trans, length-append, arith}
use Rattle.std.proofs.lemmas.List.{append-nil}
use Rattle.std.proofs.lemmas.List.Sums.{length-filter as counts-as}
use Rattle.pp_world.specs.Log.{Log}
use Rattle.pp_law.proofs.Prefixes.{front_from}
use Rattle.pp_law.specs.Lawful.{Lawful}
use Rattle.pp_law.specs.Opening.{is_at, is_same_phase}
use Rattle.pp_law.specs.Phases.{behind, come_to, is_done, next, phases}
use Rattle.pp_law.specs.Stages.{bound_of}
use Rattle.pp_law.specs.State.{State, Term, Phase, Before, IsWoken, IsConfigured, IsRooted, IsListed, IsListening, IsStuck, Awaiting, Handling, Evicting, Keeping, Deciding, Following, Connecting, DecidingAgain, Bound, Client, Conn, Exchange, start}
use Rattle.pp_law.specs.Table.{pin_of_client, pin_of_exchange}
use Rattle.pp_laws.specs.Runs.{state_after, IsIn}
use Rattle.pp_laws.proofs.Laws.{start-sound}
use Rattle.pp_laws.proofs.Lists.{in_front}
use Rattle.pp_laws.proofs.Sound.{Sound, exchange_number, facts_of as sound_facts}
use Rattle.pp_laws_asks.specs.Asks.{HasFewExchanges, HasFewWaiting, is_waiting}
use Rattle.pp_laws_asks.proofs.AsksFacts.{Asks, asks_begins, asks_places, asks_walk}
use Rattle.pp_laws_asks.proofs.AsksHappenings.{after-asks, start-asks}
use Rattle.pp_laws_bounds.specs.Bounds.{HasFewBodies, HasFewPins, HasFewRows, belongs_to_row, has_place}
use Rattle.pp_laws_bounds.proofs.Counts.{length-filter}
use Rattle.pp_laws_bounds.proofs.Happenings.{from_now}
use Rattle.pp_laws_bounds.proofs.Kept.{Kept, Stands, facts_of as kept_facts}
use Rattle.pp_laws_bounds.proofs.Laws.{start-kept, whole_kept}
use Rattle.pp_laws_bounds.proofs.Pigeons.{count-more, length-made, pigeons, rise_differ}
use Rattle.pp_laws_bounds.proofs.Small.{counts_as_bound, facts_of as small_facts, is_row}
use Rattle.pp_laws_bounds.proofs.SmallDisk.{start-small}
use Rattle.pp_laws_bounds.proofs.SmallHappenings.{IsSmall, after_all-small}
use Rattle.pp_laws_bounds.proofs.SmallSteps.{come_to-small}
use Rattle.pp_laws_bounds.proofs.Steps.{come_to-kept}
use Rattle.pp_laws_pool.proofs.Along.{Steps, along}
use Rattle.pp_laws_pool.proofs.View.{Holds as PoolHolds, facts_of as pool_facts, holds as pool_holds}
use Rattle.pp_laws_pool.proofs.WalkClients.{fill-keeps, give_up_asks-keeps}
use Rattle.pp_laws_pool.proofs.WalkSteps.{drop_unseen-keeps, placing-keeps}
use Rattle.pp_obeys.specs.Obeys.{AreDone, Obeys, phases_on}
use Rattle.pp_obeys.proofs.Come.{IsDone, come-stopped, come_to-next, next-phase, onward}
use Rattle.pp_obeys.proofs.Obeying.{log-good, obeys_good}
use Rattle.pp_laws_turn.proofs.View.{Holds}
use Rattle.pp_laws_turn.proofs.Happenings.{after-turn, next-turn, start-turn}
use Rattle.pp_laws_turn.proofs.Kept.{Turn}

-- ---- so many phases on

abbrev pub Stays : (State → Type 0) → Type 0
Stays P = (s : State) → is_done s ≡ true → P s → P (next s)

on_from : (P : State → Type 0) → Stays P → (n : ℕ) (s : State) → AreDone n s → P s → P (phases_on n s)
on_from P stays zero s done h = h
on_from P stays (suc n) s done h = on_from P stays n (next s) done.1 (stays s done.0 h)

pub obeying : (P : State → Type 0) → Stays P → (terms : List Term) (s : State) (log : Log) → Obeys terms s log → P (state_after terms log) → P s
obeying P stays terms s log obeys h = subst P obeys.goes.there (on_from P stays obeys.goes.phases (state_after terms log) obeys.goes.done h)

-- ---- the next phase is the one that it comes to

comes_next : (p : Phase) (s : State) → IsDone s → onward s.phase ≡ p → is_same_phase p p ≡ true → is_at p s ≡ false → come_to p s ≡ next s
unfolding come_to
comes_next p s d is same isnt = come_to-next p s d isnt ∙ come-stopped (is_at p) phases (next s) (ap (is_same_phase p) (next-phase s ∙ is) ∙ same)

-- what is kept on the way to a phase is kept by each
by_coming : (P : State → Type 0) → ((p : Phase) (s : State) → P s → P (come_to p s)) → Stays P
unfolding next
by_coming P comes s done h = by s.phase refl
  where
    onto : (p q : Phase) → s.phase ≡ p → onward p ≡ q → is_same_phase q q ≡ true → is_same_phase q p ≡ false → (p ≡ DecidingAgain → ⊥) → P (next s)
    onto p q is then same apart early = subst P (comes_next q s (record { done = done; early = λ e. early (sym is ∙ e) }) (ap onward is ∙ then) same (ap (is_same_phase q) is ∙ apart)) (comes q s h)

    there : (p : Phase) → s.phase ≡ p → P (next s) → P (behind p s)
    there p is now = subst (λ (q : Phase). P (behind q s)) is now

    by : (p : Phase) → s.phase ≡ p → P (behind p s)
    by Before is = h
    by IsWoken is = h
    by IsConfigured is = h
    by IsRooted is = h
    by IsListed is = h
    by IsListening is = h
    by IsStuck is = h
    by Awaiting is = h
    by Handling is = there Handling is (onto Handling Evicting is refl refl refl (λ e. cc e))
    by Evicting is = there Evicting is (onto Evicting Keeping is refl refl refl (λ e. cc e))
    by Keeping is = there Keeping is (onto Keeping Deciding is refl refl refl (λ e. cc e))
    by Deciding is = there Deciding is (onto Deciding Following is refl refl refl (λ e. cc e))
    by Following is = there Following is (onto Following Connecting is refl refl refl (λ e. cc e))
    by Connecting is = there Connecting is (onto Connecting DecidingAgain is refl refl refl (λ e. cc e))
    by DecidingAgain is = h

-- ---- what holds at each moment

whole : (terms : List Term) (log : Log) → Lawful terms log → Lawful terms (log ++ [])
whole terms log lawful = subst (λ (l : Log). Lawful terms l) (sym (append-nil log)) lawful

pub kept_on : (terms : List Term) (s : State) (log : Log) → Obeys terms s log → Kept [] s
kept_on terms s log obeys = obeying (Kept []) (by_coming (Kept []) come_to-kept) terms s log obeys (whole_kept terms log [] (whole terms log obeys.lawful))

pub small_on : (terms : List Term) (s : State) (log : Log) → Obeys terms s log → IsSmall s
small_on terms s log obeys = obeying IsSmall (by_coming IsSmall (λ p t h. (h.0, come_to-small p t h.1))) terms s log obeys
    (after_all-small (start terms) log obeys.lawful (start-sound from_now terms refl) (start-kept terms) (false, start-small terms))

behind-asks : (phase : Phase) (s : State) → PoolHolds Asks s → PoolHolds Asks (behind phase s)
behind-asks Before s h = h
behind-asks IsWoken s h = h
behind-asks IsConfigured s h = h
behind-asks IsRooted s h = h
behind-asks IsListed s h = h
behind-asks IsListening s h = h
behind-asks IsStuck s h = h
behind-asks Awaiting s h = h
behind-asks Handling s h = pool_holds (pool_facts h)
behind-asks Evicting s h = give_up_asks-keeps asks_walk _ (pool_holds (pool_facts h))
behind-asks Keeping s h = pool_holds (pool_facts h)
behind-asks Deciding s h = pool_holds (pool_facts h)
behind-asks Following s h = fill-keeps asks_walk asks_begins _ (give_up_asks-keeps asks_walk _ (drop_unseen-keeps asks_walk _ (pool_holds (pool_facts h))))
behind-asks Connecting s h = placing-keeps asks_places _ (pool_holds (pool_facts h))
behind-asks DecidingAgain s h = h

next-asks : Stays (PoolHolds Asks)
unfolding next
next-asks s done h = behind-asks s.phase s h

asks_steps : Steps (PoolHolds Asks)
asks_steps terms front h one asks = after-asks (state_after terms front) h one.permitted asks

pub asks_on : (terms : List Term) (s : State) (log : Log) → Obeys terms s log → PoolHolds Asks s
asks_on terms s log obeys = obeying (PoolHolds Asks) next-asks terms s log obeys (along (PoolHolds Asks) start-asks asks_steps terms log [] (whole terms log obeys.lawful))

log_sound : (terms : List Term) (log : Log) → Lawful terms log → Sound from_now (state_after terms log)
log_sound terms log lawful = (log-good terms log lawful).sound

turn_steps : Steps (Holds Turn)
turn_steps terms front h one turn = after-turn (state_after terms front) h (log_sound terms front (front_from (start terms) front (h ∷ []) one.lawful)) one.permitted turn

pub turn_at : (terms : List Term) (log : Log) → Lawful terms log → Holds Turn (state_after terms log)
turn_at terms log lawful = along (Holds Turn) start-turn turn_steps terms log [] (whole terms log lawful)

pub turn_on : (terms : List Term) (s : State) (log : Log) → Obeys terms s log → Holds Turn s
turn_on terms s log obeys = obeying (Holds Turn) next-turn terms s log obeys (turn_at terms log obeys.lawful)

pub sound_on : (terms : List Term) (s : State) (log : Log) → Obeys terms s log → Sound from_now s
sound_on terms s log obeys = (obeys_good obeys).sound

-- ---- bounds

pub few_rows_on : (s : State) → IsSmall s → HasFewRows s
few_rows_on s h = subst (λ n. n ≤ 1024) (counts-as is_row s.instances) (small_facts h.1).few_rows

pub few_bodies_on : (s : State) → IsSmall s → HasFewBodies s
few_bodies_on s h = le_trans (count-more belongs_to_row (counts_as_bound None) s.exchanges (λ e i is. more (is_some (bound_of e)) is)) (small_facts h.1).few_bound
  where
    more : (t : Bool) → t ≡ true → (t || false) ≡ true
    more true is = refl
    more false is = absurd (cc is)

pinned_by : (e : Exchange) (pin : ℕ × ℕ) → pin_of_exchange e ≡ Some pin → belongs_to_row e ≡ true
pinned_by e pin is = by (bound_of e) refl is
  where
    by : (o : Option Bound) → bound_of e ≡ o → (elim o as (λ c. Option (ℕ × ℕ)) [ None ↦ None | Some b ↦ elim (nat_lt b.next b.to) as (λ c. Option (ℕ × ℕ)) [ true ↦ Some (b.instance, b.next / 4096) | false ↦ None ] ]) ≡ Some pin → is_some o ≡ true
    by None none at = absurd (cc at)
    by (Some b) some at = refl

pub few_pins_on : (s : State) → length s.clients ≤ 256 → HasFewBodies s → HasFewPins s
few_pins_on s few bodies =
    let e : length (filter_map (pin_of_client s) s.clients ++ filter_map pin_of_exchange s.exchanges) ≡ length (filter_map (pin_of_client s) s.clients) + length (filter_map pin_of_exchange s.exchanges) = length-append (filter_map (pin_of_client s) s.clients) (filter_map pin_of_exchange s.exchanges) in
    let clients : length (filter_map (pin_of_client s) s.clients) ≤ length (filter (λ (c : Client). true) s.clients) = length-made (pin_of_client s) (λ (c : Client). true) s.clients (λ c pin is. refl) in
    let all : length (filter (λ (c : Client). true) s.clients) ≤ length s.clients = length-filter (λ (c : Client). true) s.clients in
    let exchanges : length (filter_map pin_of_exchange s.exchanges) ≤ length (filter belongs_to_row s.exchanges) = length-made pin_of_exchange belongs_to_row s.exchanges pinned_by in
    omega arith

-- ---- those that have a place, and those that are waited for

in_back : (n : ℕ) (ns ms : List ℕ) → IsIn n ms → IsIn n (ns ++ ms)
in_back n [] ms i = i
in_back n (m ∷ ns) ms i = inr (in_back n ns ms i)

in_lines : (n : ℕ) (k : Conn) (ks : List Conn) → IsIn k ks → IsIn n k.line → IsIn n (flat_map (λ (j : Conn). j.line) ks)
in_lines n k [] i l = absurd i
in_lines n k (j ∷ ks) (inl e) l = in_front n j.line (flat_map (λ (x : Conn). x.line) ks) (subst (λ (x : Conn). IsIn n x.line) e l)
in_lines n k (j ∷ ks) (inr i) l = in_back n j.line (flat_map (λ (x : Conn). x.line) ks) (in_lines n k ks i l)

all_lines : (ks : List Conn) → ((k : Conn) → IsIn k ks → length k.line ≤ 8) → length (flat_map (λ (j : Conn). j.line) ks) ≤ 8 * length ks
all_lines [] short = le_refl 0
all_lines (k ∷ ks) short =
    let e : length (k.line ++ flat_map (λ (j : Conn). j.line) ks) ≡ length k.line + length (flat_map (λ (j : Conn). j.line) ks) = length-append k.line (flat_map (λ (j : Conn). j.line) ks) in
    let one : length k.line ≤ 8 = short k (inl refl) in
    let rest : length (flat_map (λ (j : Conn). j.line) ks) ≤ 8 * length ks = all_lines ks (λ j i. short j (inr i)) in
    omega arith

stands_in : (s : State) → Kept [] s → s.is_stopped ≡ false → (e : Exchange) → IsIn e s.exchanges → has_place e ≡ true → IsIn e.number (flat_map (λ (k : Conn). k.line) s.conns)
stands_in s h going e i is = by e.place refl is
  where
    at : (n : ℕ) → Stands e n s.conns ⊎ IsIn e.number [] → IsIn e.number (flat_map (λ (k : Conn). k.line) s.conns)
    at n (inl w) = in_lines e.number w.0 s.conns w.1 w.3
    at n (inr none) = absurd none

    by : (o : Option ℕ) → e.place ≡ o → is_some o ≡ true → IsIn e.number (flat_map (λ (k : Conn). k.line) s.conns)
    by None none some = absurd (cc some)
    by (Some n) placed some = at n ((kept_facts h).lined going e n i placed)

few_placed_on : (s : State) → Sound from_now s → Kept [] s → s.is_stopped ≡ false → length (filter has_place s.exchanges) ≤ 512
few_placed_on s sound_it h going =
    let le : length (filter has_place s.exchanges) ≤ length (flat_map (λ (k : Conn). k.line) s.conns) = pigeons exchange_number (λ (n : ℕ). Some n) has_place s.exchanges (flat_map (λ (k : Conn). k.line) s.conns)
    (rise_differ (map exchange_number s.exchanges) (sound_facts sound_it).asks.rise) (λ e i is. (e.number, stands_in s h going e i is, refl)) in
    let long : length (flat_map (λ (k : Conn). k.line) s.conns) ≤ 8 * length s.conns = all_lines s.conns (kept_facts h).lines.short in
    let few : length s.conns ≤ 64 = (kept_facts h).lines.few in
    omega arith

counted : (e : Exchange) (xs ys zs : List Exchange) (a p : Bool) → length xs ≤ length ys + length zs → length (e ∷ xs) ≤ length (cond p (e ∷ ys) ys) + length (cond (a || not p) (e ∷ zs) zs)
counted e xs ys zs true true le = omega arith
counted e xs ys zs false true le = omega arith
counted e xs ys zs true false le = omega arith
counted e xs ys zs false false le = omega arith

placed_or_waiting : (es : List Exchange) → length es ≤ length (filter has_place es) + length (filter is_waiting es)
placed_or_waiting [] = le_refl 0
placed_or_waiting (e ∷ es) = counted e es (filter has_place es) (filter is_waiting es) (is_some e.asker) (is_some e.place) (placed_or_waiting es)

pub few_exchanges_on : (s : State) → Sound from_now s → Kept [] s → HasFewWaiting s → HasFewExchanges s
few_exchanges_on s sound_it h waiting going =
    let all : length s.exchanges ≤ length (filter has_place s.exchanges) + length (filter is_waiting s.exchanges) = placed_or_waiting s.exchanges in
    let placed : length (filter has_place s.exchanges) ≤ 512 = few_placed_on s sound_it h going in
    omega arith
