-- Where a turn may end, who has no request may send one, and is read.
use Rattle.std.proofs.Common.{◌≡◌, refl, ℕ, ◌<◌, nat_lt, Bool, true, false, not, ◌&&◌, ◌||◌, List, [], ◌∷◌, ◌++◌, map, length, sym, subst, ap, ◌∙◌, arith}
use Rattle.std.proofs.lemmas.Bool.Decides.{nat_tests}
use Rattle.std.proofs.lemmas.List.{append-nil}
use Rattle.pp_world.specs.Log.{Log}
use Rattle.pp_world.specs.declared.happening.Happening.{Happening}
use Rattle.pp_world.specs.declared.happening.Happening.TheVariants.{Opened}
use Rattle.pp_law.specs.After.{after, changed, event, opened}
use Rattle.pp_law.specs.Lawful.{Lawful}
use Rattle.pp_law.specs.Phases.{come_to, ending, is_done, next}
use Rattle.pp_law.specs.Requests.{Front, NoHeadYet, NoHead, IsRequest, has_request}
use Rattle.pp_law.specs.State.{State, Client, DecidingAgain, Term, start}
use Rattle.pp_laws.specs.Numbers.{AreRising}
use Rattle.pp_laws.specs.Runs.{IsIn, state_after}
use Rattle.pp_laws.proofs.Sound.{client_number, facts_of as sound_facts}
use Rattle.pp_laws_pool.proofs.Along.{Steps, after_all-append, along}
use Rattle.pp_obeys.specs.Obeys.{Obeys}
use Rattle.pp_obeys.proofs.Obeying.{log-good}
use Rattle.pp_laws_turn.proofs.Lifts.{obeying}
use Rattle.pp_laws_turn.proofs.Same.{begun_at_end-same}
use Rattle.pp_laws_ends.proofs.Ahead.{begun_clients}
use Rattle.pp_laws_ends.proofs.Served.{askers_served}
use Rattle.pp_laws_ends.proofs.Undecided.{Ends, ends_at}
use Rattle.pp_laws_served.specs.Served.{WhoMayAskIsServed}
use Rattle.pp_laws_served.proofs.Happenings.{changed-tended, ending-heeds, event-heeds}
use Rattle.pp_laws_served.proofs.Heed.{facts_of as heeds_of, heeds_same}
use Rattle.pp_laws_served.proofs.HeedTurns.{next-heeds}
use Rattle.pp_laws_served.proofs.Tended.{Tended, facts_of, tended, tended_on}

-- ---- at each moment

first_tended : (terms : List Term) → Tended true (start terms)
first_tended terms = tended (record { rise = tt; short = λ c i. absurd i; over = λ is c i. absurd i })

opens : (s : State) (n : ℕ) → AreRising (map client_number (after s (Opened n)).clients) → AreRising (map client_number (event (opened n s)).clients)
unfolding changed
opens s n rise = rise

steps_tended : Steps (Tended true)
steps_tended terms front h one now = changed-tended (state_after terms front) h (λ n is. rises n is) now
  where
    behind : AreRising (map client_number (after (state_after terms front) h).clients)
    behind = subst (λ (t : State). AreRising (map client_number t.clients)) (after_all-append (start terms) front (h ∷ [])) (sound_facts (log-good terms (front ++ h ∷ []) one.lawful).sound).callers.rise

    numbers : (n : ℕ) → map client_number (event (opened n (state_after terms front))).clients ≡ map client_number (opened n (state_after terms front)).clients
    numbers n = (heeds_of (event-heeds (opened n (state_after terms front)) (heeds_same (opened n (state_after terms front))))).numbers

    rises : (n : ℕ) → h ≡ Opened n → AreRising (map client_number (opened n (state_after terms front)).clients)
    rises n is = subst AreRising (numbers n) (opens (state_after terms front) n (subst (λ (g : Happening). AreRising (map client_number (after (state_after terms front) g).clients)) is behind))

whole : (terms : List Term) (log : Log) → Lawful terms log → Lawful terms (log ++ [])
whole terms log lawful = subst (λ (l : Log). Lawful terms l) (sym (append-nil log)) lawful

stays_tended : (s : State) → is_done s ≡ true → Tended true s → Tended true (next s)
stays_tended s done h = tended_on s _ (next-heeds s (heeds_same s)) h

pub tended_at : (terms : List Term) (s : State) (log : Log) → Obeys terms s log → Tended true s
tended_at terms s log obeys = obeying (Tended true) stays_tended terms s log obeys (along (Tended true) first_tended steps_tended terms log [] (whole terms log obeys.lawful))

pub tended_end : (terms : List Term) (s : State) (log : Log) → Obeys terms s log → Tended true (ending s)
tended_end terms s log obeys = tended_on s _ (ending-heeds s (heeds_same s)) (tended_at terms s log obeys)

-- ---- and nobody is closing

pub going_end : (s : State) → Ends (come_to DecidingAgain s) → (c : Client) → IsIn c (ending s).clients → c.is_closing ≡ false
unfolding ending
going_end s h c i =
    let w = begun_clients (come_to DecidingAgain s) c i in
    ap (λ (x : Client). x.is_closing) w.is ∙ (begun_at_end-same (come_to DecidingAgain s) w.was).closing ∙ h.going w.was w.there

no_front : (f : Front) → has_request f ≡ false → f ≡ NoHeadYet
no_front NoHeadYet is = refl
no_front (NoHead status) is = absurd (cc is)
no_front (IsRequest r) is = absurd (cc is)

on_line : (a b x y : Bool) → b ≡ false → x ≡ false → (a && not b && (not x || y)) ≡ false → a ≡ false
on_line true true x y going none off = absurd (cc going)
on_line true false true y going none off = absurd (cc none)
on_line true false false y going none off = absurd (cc off)
on_line false b x y going none off = refl

room : (n : ℕ) → n < 16384 → nat_lt n 16384 ≡ true
room n lt = grind (arith, nat_tests)

pub who_may_ask : WhoMayAskIsServed
who_may_ask terms s log ends c i none =
    let f = facts_of (tended_end terms s log ends.obeys) in
    let going = going_end s (ends_at terms s log ends.obeys ends.early ends.may ends.runs) c i in
    askers_served terms s log ends.obeys c i none
    (on_line c.has_hung_up c.is_closing (has_request c.front) (nat_lt (length c.heard) c.body_left) going none (f.over refl c i))
    (room (length c.heard) (f.short c i (no_front c.front none)))
