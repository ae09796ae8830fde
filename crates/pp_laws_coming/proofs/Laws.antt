-- The law: what is told holds in each state that a lawful log may go on as from.
use Rattle.std.proofs.Common.{◌≡◌, refl, ℕ, true, false, not, ◌||◌, List, [], ◌∷◌, is_some, Option, Some, None, inl, inr, sym, subst, ap, ◌∙◌}
use Rattle.std.proofs.lemmas.List.{append-nil}
use Rattle.std.specs.List.{list_any}
use Rattle.pp_valid.specs.declared.version.Version.{Version}
use Rattle.pp_world.specs.Log.{Log}
use Rattle.pp_law.proofs.Prefixes.{front_from}
use Rattle.pp_law.specs.Closing.{is_over}
use Rattle.pp_law.specs.Connections.{client, exchange, is_client, is_exchange}
use Rattle.pp_law.specs.Lawful.{Lawful}
use Rattle.pp_law.specs.Stages.{filled_of, is_headed, passed_of}
use Rattle.pp_law.specs.State.{State, Term, Client, Exchange, Instance, Reply, Stage, Undecided, Waiting, Passing, Answering, Phase, Before, IsWoken, IsConfigured, IsRooted, IsListed, IsListening, IsStuck, Awaiting, Handling, Evicting, Keeping, Deciding, Following, Connecting, DecidingAgain, start}
use Rattle.pp_laws.specs.Runs.{IsIn, state_after}
use Rattle.pp_laws.proofs.Lists.{in_find}
use Rattle.pp_laws.proofs.Sound.{source_in}
use Rattle.pp_laws.proofs.Tests.{same_number}
use Rattle.pp_laws_pool.proofs.Along.{Steps, along}
use Rattle.pp_obeys.specs.Obeys.{Obeys}
use Rattle.pp_obeys.proofs.Obeying.{log-good}
use Rattle.pp_laws_turn.proofs.Lifts.{obeying, turn_at}
use Rattle.pp_laws_turn.proofs.View.{Holds, facts_of, is_late, view}
use Rattle.pp_laws_coming.specs.Coming.{AsksAreTold, IsBy, IsComing, IsTold as IsToldOf, IsToldOn, is_behind_evicting}
use Rattle.pp_laws_coming.proofs.Phases.{AtPhase, next-comes}
use Rattle.pp_laws_coming.proofs.Facts.{Coming, Follows, IsTold}
use Rattle.pp_laws_coming.proofs.Happenings.{after-comes}
use Rattle.pp_laws_coming.proofs.Notes.{start-comes}

-- ---- what is kept says it

row_source : (c : Client) (x : Instance) → IsBy x c → source_in c.stage ≡ Some x.id
row_source c x by_row = by c.stage by_row.is
  where
    by : (stage : Stage) → (elim stage as (λ y. Option Reply) [ Undecided ↦ None | Waiting ↦ None | Passing ↦ None | Answering r ↦ Some r ]) ≡ Some by_row.reply → source_in stage ≡ Some x.id
    by Undecided is = absurd (cc is)
    by Waiting is = absurd (cc is)
    by Passing is = absurd (cc is)
    by (Answering r) is = let one : r ≡ by_row.reply = cc is in ap (λ (q : Reply). q.source) one ∙ by_row.source

follows_it : (c : Client) (x : Instance) → IsBy x c → Follows x c
follows_it c x by_row = record { stands = by_row.stands; source = row_source c x by_row }

late_so : (p : Phase) → is_behind_evicting p ≡ true → is_late p ≡ true
late_so Before is = absurd (cc is)
late_so IsWoken is = absurd (cc is)
late_so IsConfigured is = absurd (cc is)
late_so IsRooted is = absurd (cc is)
late_so IsListed is = absurd (cc is)
late_so IsListening is = absurd (cc is)
late_so IsStuck is = absurd (cc is)
late_so Awaiting is = absurd (cc is)
late_so Handling is = absurd (cc is)
late_so Evicting is = absurd (cc is)
late_so Keeping is = refl
late_so Deciding is = refl
late_so Following is = refl
late_so Connecting is = refl
late_so DecidingAgain is = refl

none_over : (es : List Exchange) → ((e : Exchange) → IsIn e es → e.place ≡ None → e.asker ≡ None → ⊥) → list_any is_over es ≡ false
none_over [] none = refl
none_over (e ∷ es) none = by e.asker e.place refl refl (none_over es (λ d i. none d (inr i)))
  where
    by : (o p : Option ℕ) → e.asker ≡ o → e.place ≡ p → list_any is_over es ≡ false → (not (is_some o || is_some p) || list_any is_over es) ≡ false
    by None None nobody nowhere rest = absurd (none e (inl refl) nowhere nobody)
    by (Some n) p somebody at rest = rest
    by None (Some k) nobody at rest = rest

pub told_at : (s : State) → Holds AtPhase s → IsToldOn s
told_at s h = record {
  told = λ e n c i asks found. of_client e n c (told e n c i asks found);
  bare = λ c x i j by_row. (f.settled c i).bare x j (follows_it c x by_row);
  unasked = λ c i. (f.settled c i).unasked;
  headed = f.headed;
  placeless = λ e i nowhere nobody. by e i nowhere nobody (filled_of e) refl;
  going = λ late. none_over s.exchanges (λ e i. f.placeless e i (inl (late_so s.phase late)));
}
  where
    f : Coming (is_late s.phase) (view s)
    f = facts_of h

    told : (e : Exchange) (n : ℕ) (c : Client) → IsIn e s.exchanges → e.asker ≡ Some n → client s n ≡ Some c → IsTold s.instances e c
    told e n c i asks found = let r = in_find (is_client n) c s.clients found in f.told e n c i r.0 asks (same_number c.number n r.1) (λ none. cc none)

    of_client : (e : Exchange) (n : ℕ) (c : Client) → IsTold s.instances e c → IsToldOf s e c
    of_client e n c t = record {
      untold = t.untold;
      coming = t.coming;
      waits = t.waits;
      stands = t.stands;
      fills = t.fills;
      left = t.left;
      bound = λ fills x i by_row. let b = t.bound fills x i (follows_it c x by_row) in record { to = b.to; is = b.is; instance = b.instance };
      key = t.key;
    }

    by : (e : Exchange) → IsIn e s.exchanges → e.place ≡ None → e.asker ≡ None → (o : Option Version) → filled_of e ≡ o → (v : Version) × (filled_of e ≡ Some v)
    by e i nowhere nobody None is = absurd (f.placeless e i (inr is) nowhere nobody)
    by e i nowhere nobody (Some v) is = (v, is)

-- ---- of each lawful log

coming_steps : Steps (Holds AtPhase)
coming_steps terms front h one now =
    let lawful : Lawful terms front = front_from (start terms) front (h ∷ []) one.lawful in
    after-comes (state_after terms front) h refl (log-good terms front lawful).sound (turn_at terms front lawful) one.permitted now

coming_at : (terms : List Term) (log : Log) → Lawful terms log → Holds AtPhase (state_after terms log)
coming_at terms log lawful = along (Holds AtPhase) start-comes coming_steps terms log [] (subst (λ (l : Log). Lawful terms l) (sym (append-nil log)) lawful)

pub coming_on : (terms : List Term) (s : State) (log : Log) → Obeys terms s log → Holds AtPhase s
coming_on terms s log obeys = obeying (Holds AtPhase) (λ t done h. next-comes t h) terms s log obeys (coming_at terms log obeys.lawful)

pub asks_told : AsksAreTold
asks_told terms s log obeys = told_at s (coming_on terms s log obeys)

-- ---- of the exchange of a number, as steps of a program ask for it

pub untold_for : (s : State) → IsToldOn s → (m n : ℕ) (e : Exchange) (c : Client) → exchange s m ≡ Some e → is_headed e ≡ false → e.asker ≡ Some n → client s n ≡ Some c → passed_of c ≡ None
untold_for s h m n e c there unheaded asks found = (h.told e n c (in_find (is_exchange m) e s.exchanges there).0 asks found).untold unheaded

pub coming_for : (s : State) → IsToldOn s → (m n : ℕ) (e : Exchange) (c : Client) → exchange s m ≡ Some e → e.asker ≡ Some n → client s n ≡ Some c → IsComing c
coming_for s h m n e c there asks found = (h.told e n c (in_find (is_exchange m) e s.exchanges there).0 asks found).coming
