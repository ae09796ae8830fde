-- What is due is taken, one after the other.
use Rattle.std.proofs.Common.{◌≡◌, ◌<◌, ◌≤◌, ◌-◌, ◌+◌, ℕ, suc, Bool, true, false, ◌||◌, [], ◌++◌, is_some, Option, Some, None, append_assoc, refl, sym, ap, subst, ◌∙◌}
use Rattle.std.specs.Prelude.{count_by}
use Rattle.std.proofs.lemmas.List.{append-nil}
use Rattle.pp_desk.specs.Closings.{KeepsDesk}
use Rattle.pp_desk.specs.declared.desk.Desk.{Desk}
use Rattle.pp_due.specs.Entering.{FirstDue}
use Rattle.pp_links.proofs.FailureLemmas.{counted_none, counted_then}
use Rattle.pp_links.specs.Failures.{fails}
use Rattle.pp_places.proofs.PlacingLemmas.{told_then}
use Rattle.pp_proxy.proofs.LeadingLemmas.{due_fails, none_left, one_less}
use Rattle.pp_proxy.specs.Deciding.{Decides, DecidesAll, TakesOne, TurnsAway, turned_links, turned_log}
use Rattle.pp_proxy.specs.Moving.{LeadsOn, Moving, with_state}
use Rattle.pp_proxy.specs.Taking.{due_log}
use Rattle.pp_seats.specs.declared.due.Due.{Due}
use Rattle.pp_state.specs.Astray.{gone_astray}
use Rattle.pp_state.specs.Ends.{KeepsRest}
use Rattle.pp_state.specs.declared.state.State.{State}
use Rattle.pp_store.specs.Kept.{KeptMap}
use Rattle.pp_world.specs.Log.{AppendsAll, Log, Told}

-- ---- who is turned away

pub turned_as : (o : Option ℕ) (x y : Moving) → x.desk.turned_away ≡ o → y.desk ≡ record x.desk { turned_away = None } → y.links ≡ turned_links o x.links → y.top ≡ x.top → TurnsAway x (turned_log o x.links) y
turned_as o x y at desk links top = record {
  log_is = ap (λ (c : Option ℕ). turned_log c x.links) (sym at);
  desk = desk;
  links = links ∙ ap (λ (c : Option ℕ). turned_links c x.links) (sym at);
  top = top;
}

-- nobody is
pub none_turned : (d : Desk) → d.turned_away ≡ None → d ≡ record d { turned_away = None }
none_turned d none = ap (λ (o : Option ℕ). record d { turned_away = o }) none

-- ---- so far i of so many were taken

pub record AreDecidedSoFar (i : ℕ) (shelf : KeptMap) (x mid : Moving) (any : Bool) (old log : Option Log) (before now : ℕ) : Type 0 where
  pub added : Log
  pub told : AppendsAll old log (λ l. added)
  pub counted : Told log (λ l. before + count_by fails added ≤ now)
  pub on : (rest : Log) (y : Moving) (later : Bool) → Decides (65536 - i) shelf mid rest y later → DecidesAll shelf x (added ++ rest) y (any || later)

pub none_decided : (shelf : KeptMap) (x mid : Moving) (old log : Option Log) (before now : ℕ) → LeadsOn TurnsAway x mid old log before now → AreDecidedSoFar 0 shelf x mid (is_some x.desk.turned_away) old log before now
none_decided shelf x mid old log before now led = record {
  added = led.added;
  told = led.told;
  counted = led.counted;
  on = λ rest y later all. record { between = mid; first = led.added; rest = rest; log_is = refl; turned = led.is; later = later; decides = all; any_is = refl };
}

or_true : (b : Bool) → (b || true) ≡ true
or_true true = refl
or_true false = refl

or_false : (b : Bool) → (b || false) ≡ b
or_false true = refl
or_false false = refl

decided_next : (more : ℕ) (shelf : KeptMap) (x : Moving) (found : State) (i : ℕ) (due : Due) (next y : Moving) (first rest : Log) (later : Bool) → FirstDue shelf x.desk.state.awake.items x.desk.state found (Some (i, due))
    → TakesOne i due (with_state found x) first next → Decides more shelf next rest y later → Decides (suc more) shelf x (first ++ rest) y true
unfolding Decides
decided_next more shelf x found i due next y first rest later finds takes others = (found, Some (i, due), finds, (next, first, rest, later, refl, takes, others, refl))

-- what was due is taken
pub taken_one : (i : ℕ) (due : Due) (x y : Moving) (old new : Option Log) (before now : ℕ) → TakesOne i due x (due_log i due x.desk.state) y → AppendsAll old new (λ l. due_log i due x.desk.state) → before ≤ now → LeadsOn (TakesOne i due) x y old new before now
taken_one i due x y old new before now is told more = record { added = due_log i due x.desk.state; is = is; told = told; counted = counted_none (due_log i due x.desk.state) (due_fails i due x.desk.state) more }

pub one_more_decided : (i : ℕ) (shelf : KeptMap) (x mid next : Moving) (any : Bool) (found : State) (place : ℕ) (due : Due) (old log new : Option Log) (before between now : ℕ) → i < 65536
    → AreDecidedSoFar i shelf x mid any old log before between → FirstDue shelf mid.desk.state.awake.items mid.desk.state found (Some (place, due))
    → LeadsOn (TakesOne place due) (with_state found mid) next log new between now → AreDecidedSoFar (i + 1) shelf x next true old new before now
one_more_decided i shelf x mid next any found place due old log new before between now less so finds led = record {
  added = so.added ++ led.added;
  told = told_then so.added led.added so.told led.told;
  counted = counted_then before between now so.added led.added so.counted led.told led.counted;
  on = λ rest y later others.
      let here : Decides (suc (65536 - (i + 1))) shelf mid (led.added ++ rest) y true = decided_next (65536 - (i + 1)) shelf mid found place due next y led.added rest later finds led.is others in
      let all : DecidesAll shelf x (so.added ++ (led.added ++ rest)) y (any || true) =
      so.on (led.added ++ rest) y true (subst (λ (n : ℕ). Decides n shelf mid (led.added ++ rest) y true) (sym (one_less 65536 i less)) here) in
      subst (λ (l : Log). DecidesAll shelf x l y true) (sym (append_assoc so.added led.added rest)) (subst (λ (b : Bool). DecidesAll shelf x (so.added ++ (led.added ++ rest)) y b) (or_true any) all);
}

-- ---- and that is all

ends : (i : ℕ) (shelf : KeptMap) (x mid y : Moving) (any : Bool) (old log : Option Log) (before now : ℕ) → AreDecidedSoFar i shelf x mid any old log before now → Decides (65536 - i) shelf mid [] y false
    → LeadsOn (λ a l b. DecidesAll shelf a l b any) x y old log before now
ends i shelf x mid y any old log before now so none = record {
  added = so.added;
  is = subst (λ (l : Log). DecidesAll shelf x l y any) (append-nil so.added) (subst (λ (b : Bool). DecidesAll shelf x (so.added ++ []) y b) (or_false any) (so.on [] y false none));
  told = so.told;
  counted = so.counted;
}

decided_over : (more : ℕ) (shelf : KeptMap) (x : Moving) (found : State) → FirstDue shelf x.desk.state.awake.items x.desk.state found None → Decides (suc more) shelf x [] (with_state found x) false
unfolding Decides
decided_over more shelf x found none = (found, None, none, (refl, refl, refl))

-- nothing is due any more
pub all_decided : (i : ℕ) (shelf : KeptMap) (x mid : Moving) (any : Bool) (found : State) (old log : Option Log) (before now : ℕ) → i < 65536 → AreDecidedSoFar i shelf x mid any old log before now
    → FirstDue shelf mid.desk.state.awake.items mid.desk.state found None → LeadsOn (λ a l b. DecidesAll shelf a l b any) x (with_state found mid) old log before now
all_decided i shelf x mid any found old log before now less so none =
    ends i shelf x mid (with_state found mid) any old log before now so
    (subst (λ (n : ℕ). Decides n shelf mid [] (with_state found mid) false) (sym (one_less 65536 i less)) (decided_over (65536 - (i + 1)) shelf mid found none))

none_more : (shelf : KeptMap) (x : Moving) → Decides 0 shelf x [] (with_state (gone_astray x.desk.state) x) false
unfolding Decides
none_more shelf x = (refl, refl, refl)

-- or there were as many as may be, and this life goes astray
pub most_decided : (i : ℕ) (shelf : KeptMap) (x mid : Moving) (any : Bool) (old log : Option Log) (before now : ℕ) → 65536 ≤ i → AreDecidedSoFar i shelf x mid any old log before now
    → LeadsOn (λ a l b. DecidesAll shelf a l b any) x (with_state (gone_astray mid.desk.state) mid) old log before now
most_decided i shelf x mid any old log before now all so =
    let y : Moving = with_state (gone_astray mid.desk.state) mid in
    ends i shelf x mid y any old log before now so (subst (λ (n : ℕ). Decides n shelf mid [] y false) (sym (none_left 65536 i all)) (none_more shelf mid))

-- ---- what stays meanwhile

abbrev back : Desk → Desk → Desk
back old d = record d {
  state = record d.state { seats = old.state.seats; flow = old.state.flow; cache = old.state.cache; refused = old.state.refused; is_astray = old.state.is_astray };
  peers = old.peers;
  turned_away = old.turned_away;
}

pub turned_keeps : (old new : Desk) → new ≡ record old { turned_away = None } → KeepsDesk old (record new { turned_away = old.turned_away })
turned_keeps old new is = ap (back old) is

pub found_keeps : (old mid : Desk) (found : State) → KeepsDesk old (record mid { turned_away = old.turned_away }) → KeepsRest mid.state found → KeepsDesk old (record mid { state = found; turned_away = old.turned_away })
found_keeps old mid found keeps rest = ap (λ (s : State). back old (record mid { state = s })) rest ∙ keeps

pub next_keeps : (old mid new : Desk) → KeepsDesk old (record mid { turned_away = old.turned_away }) → KeepsDesk mid new → KeepsDesk old (record new { turned_away = old.turned_away })
next_keeps old mid new keeps rest = ap (back old) rest ∙ keeps
