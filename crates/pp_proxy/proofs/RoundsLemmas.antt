-- Rounds, one behind the other, as long as one decided anything.
use Rattle.std.proofs.Common.{◌≡◌, ◌<◌, ◌≤◌, ◌-◌, ◌+◌, ℕ, zero, suc, Bool, true, false, [], ◌++◌, Option, ◌||◌, append_assoc, refl, ap, sym, subst, arith}
use Rattle.std.specs.Prelude.{count_by}
use Rattle.std.proofs.lemmas.List.{append-nil}
use Rattle.pp_links.proofs.FailureLemmas.{counted_none, counted_then}
use Rattle.pp_links.specs.Failures.{fails}
use Rattle.pp_places.proofs.PlacingLemmas.{told_then}
use Rattle.pp_desk.proofs.ShuttingLemmas.{none_added}
use Rattle.pp_proxy.proofs.LeadingLemmas.{none_left, one_less}
use Rattle.pp_proxy.specs.Moving.{LeadsOn, Moving, with_state}
use Rattle.pp_proxy.specs.Rounds.{GoRounds, GoesRound, Serves}
use Rattle.pp_state.specs.Astray.{gone_astray_where}
use Rattle.pp_state.specs.Ends.{numbers_of}
use Rattle.pp_state.specs.declared.state.State.{State}
use Rattle.pp_steps.specs.Begins.{BeginsReplies}
use Rattle.pp_store.specs.Kept.{KeptMap}
use Rattle.pp_world.specs.Log.{AppendsAll, Log, Told}

-- so far i of so many were gone
pub record AreRoundsSoFar (i : ℕ) (shelf : KeptMap) (x mid : Moving) (any : Bool) (old log : Option Log) (before now : ℕ) : Type 0 where
  pub added : Log
  pub told : AppendsAll old log (λ l. added)
  pub counted : Told log (λ l. before + count_by fails added ≤ now)
  pub on : (rest : Log) (y : Moving) → GoRounds (65536 - i) shelf any mid rest y → GoRounds 65536 shelf true x (added ++ rest) y

same : (n : ℕ) → n ≤ n
same n = omega arith

pub no_round : (shelf : KeptMap) (x : Moving) (log : Option Log) (n : ℕ) → AreRoundsSoFar 0 shelf x x true log log n n
no_round shelf x log n = record { added = []; told = none_added [] refl refl; counted = counted_none [] refl (same n); on = λ rest y all. all }

round_next : (more : ℕ) (shelf : KeptMap) (x next y : Moving) (again : Bool) (first rest : Log) → GoesRound shelf x first next again → GoRounds more shelf again next rest y → GoRounds (suc more) shelf true x (first ++ rest) y
unfolding GoRounds
round_next more shelf x next y again first rest goes others = (next, first, rest, again, refl, goes, others)

pub one_more_round : (i : ℕ) (shelf : KeptMap) (x mid next : Moving) (any again : Bool) (old log new : Option Log) (before between now : ℕ) → i < 65536 → any ≡ true → AreRoundsSoFar i shelf x mid any old log before between
    → LeadsOn (λ a l b. GoesRound shelf a l b again) mid next log new between now → AreRoundsSoFar (i + 1) shelf x next again old new before now
one_more_round i shelf x mid next any again old log new before between now less goes so led = record {
  added = so.added ++ led.added;
  told = told_then so.added led.added so.told led.told;
  counted = counted_then before between now so.added led.added so.counted led.told led.counted;
  on = λ rest y others.
      let here : GoRounds (suc (65536 - (i + 1))) shelf true mid (led.added ++ rest) y = round_next (65536 - (i + 1)) shelf mid next y again led.added rest led.is others in
      let left : GoRounds (65536 - i) shelf true mid (led.added ++ rest) y = subst (λ (n : ℕ). GoRounds n shelf true mid (led.added ++ rest) y) (sym (one_less 65536 i less)) here in
      subst (λ (l : Log). GoRounds 65536 shelf true x l y) (sym (append_assoc so.added led.added rest)) (so.on (led.added ++ rest) y (subst (λ (b : Bool). GoRounds (65536 - i) shelf b mid (led.added ++ rest) y) (sym goes) left));
}

-- ---- and that is all

ends : (i : ℕ) (shelf : KeptMap) (x mid y : Moving) (any : Bool) (old log : Option Log) (before now : ℕ) → AreRoundsSoFar i shelf x mid any old log before now → GoRounds (65536 - i) shelf any mid [] y
    → LeadsOn (λ a l b. GoRounds 65536 shelf true a l b) x y old log before now
ends i shelf x mid y any old log before now so none = record { added = so.added; is = subst (λ (l : Log). GoRounds 65536 shelf true x l y) (append-nil so.added) (so.on [] y none); told = so.told; counted = so.counted }

rounds_over : (more : ℕ) (shelf : KeptMap) (x : Moving) → GoRounds more shelf false x [] x
unfolding GoRounds
rounds_over zero shelf x = (refl, refl)
rounds_over (suc more) shelf x = (refl, refl)

-- the last decided nothing
pub all_rounds : (i : ℕ) (shelf : KeptMap) (x mid : Moving) (any : Bool) (old log : Option Log) (before now : ℕ) → any ≡ false → AreRoundsSoFar i shelf x mid any old log before now
    → LeadsOn (λ a l b. GoRounds 65536 shelf true a l b) x mid old log before now
all_rounds i shelf x mid any old log before now none so =
    ends i shelf x mid mid any old log before now so (subst (λ (b : Bool). GoRounds (65536 - i) shelf b mid [] mid) (sym none) (rounds_over (65536 - i) shelf mid))

or_true : (b : Bool) → (b || true) ≡ true
or_true true = refl
or_true false = refl

or_false : (b : Bool) → (b || false) ≡ b
or_false true = refl
or_false false = refl

-- where any was decided, this life goes astray
astray_so : (any : Bool) (s : State) → record s { is_astray = s.is_astray || any } ≡ gone_astray_where any s
astray_so true s = ap (λ (b : Bool). record s { is_astray = b }) (or_true s.is_astray)
astray_so false s = ap (λ (b : Bool). record s { is_astray = b }) (or_false s.is_astray)

abbrev more_left : Bool → Moving → Moving
more_left any x = with_state (record x.desk.state { is_astray = x.desk.state.is_astray || any }) x

none_more : (shelf : KeptMap) (any : Bool) (x : Moving) → GoRounds 0 shelf any x [] (more_left any x)
unfolding GoRounds
none_more shelf any x = (refl, ap (λ (s : State). with_state s x) (astray_so any x.desk.state))

-- or there were as many as may be
pub most_rounds : (i : ℕ) (shelf : KeptMap) (x mid : Moving) (any : Bool) (old log : Option Log) (before now : ℕ) → 65536 ≤ i → AreRoundsSoFar i shelf x mid any old log before now
    → LeadsOn (λ a l b. GoRounds 65536 shelf true a l b) x (with_state (record mid.desk.state { is_astray = mid.desk.state.is_astray || any }) mid) old log before now
most_rounds i shelf x mid any old log before now all so =
    ends i shelf x mid (more_left any mid) any old log before now so (subst (λ (n : ℕ). GoRounds n shelf any mid [] (more_left any mid)) (sym (none_left 65536 i all)) (none_more shelf any mid))

-- ---- and replies begin

pub serves_on : (shelf : KeptMap) (x mid : Moving) (s : State) (old log : Option Log) (before now : ℕ) → LeadsOn (λ a l b. GoRounds 65536 shelf true a l b) x mid old log before now → BeginsReplies mid.desk.state.awake.items mid.desk.state s
    → numbers_of s.seats.items ≡ numbers_of mid.desk.state.seats.items → LeadsOn (Serves shelf) x (with_state s mid) old log before now
serves_on shelf x mid s old log before now led begins numbers = record {
  added = led.added;
  is = record { between = mid; rounds = led.is; begins = record { is = begins; numbers = numbers; rest = refl }; links = refl; top = refl };
  told = led.told;
  counted = led.counted;
}
