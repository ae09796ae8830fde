-- A client less follows an instance, as the law has it.
use Rattle.std.proofs.Common.{◌≡◌, ◌+◌, ◌-◌, refl, sym, subst, ap, ◌∙◌, ℕ, Bool, true, false, ◌==◌, ◌&&◌, cond, List, Option, Some, option_map, arith}
use Rattle.std.specs.Prelude.{count_by}
use Rattle.std.proofs.lemmas.Bool.Decides.{nat_tests}
use Rattle.pp_cache.specs.Memory.{Memory}
use Rattle.pp_holes.specs.Places.{without_owner}
use Rattle.pp_law.specs.State.{State, Client, Instance as Known}
use Rattle.pp_law.specs.Table.{follows, instance, is_instance, swept}
use Rattle.pp_objects.specs.Changes.{changed_in, given_back, is_last, left, left_from, without_slot}
use Rattle.pp_objects.specs.Instances.{Instance, in_slot, is_in_slot}
use Rattle.pp_objects.proofs.OneRow.{one_row-changed}
use Rattle.pp_cache_law.specs.Changes.{IsFollowedToo}
use Rattle.pp_cache_law.specs.Reads.{IsFound}
use Rattle.pp_cache_law.specs.Retires.{LeavingsAreTheLaws}
use Rattle.pp_cache_law.specs.Tables.{AreFollowed, NoneAhead, ShowsChunk, ShowsInstance, ShowsTable, number_in}
use Rattle.pp_cache_law.proofs.Renewing.{changed_there}
use Rattle.pp_cache_law.proofs.Finds.{find_passes}
use Rattle.pp_cache_law.proofs.Followed.{followed-without}
use Rattle.pp_cache_law.proofs.Moves.{changed_alone, changed_if, chunk_stays, in_slot-changed, in_slot-other, kept_by, number_in-changed, without-changed}
use Rattle.pp_cache_law.proofs.Numbers.{instances_alike, is_same, number_of_there, some_is}
use Rattle.pp_cache_law.proofs.PairLemmas.{also, mapped_left}
use Rattle.pp_cache_law.proofs.Alike.{instances_of}
use Rattle.pp_cache_law.proofs.Sweeping.{sweeps_none, sweeps_one}

-- ---- before one is out

less_one : (f k n : ℕ) → f ≡ k → k ≡ n + 1 → f - 1 ≡ n
less_one f k n e g = omega (arith, e, g)

none_less : (k n : ℕ) → k ≡ n + 0 → k ≡ n
none_less k n e = omega (arith, e)

left_shows : (number : ℕ → ℕ) (m : Memory) (s : State) (slot n : ℕ) (cs : List Client) (i : Instance) (x : Known) (b : Bool) → IsFollowedToo n cs s.clients → is_in_slot slot i ≡ b → is_instance n x ≡ b
    → ShowsInstance number m s i x → ShowsInstance number (record m { instances = changed_in slot left m.instances }) (record s { clients = cs }) (cond b (left i) i) x
left_shows number m s slot n cs i x true less test law one =
    let there = changed_there slot left m.instances i true (λ j. refl) test one.there in
    record {
      there = there;
      id = one.id;
      key = one.key;
      version = one.version;
      fields = one.fields;
      times = one.times;
      retired = one.retired;
      followers = less_one i.followers (count_by (follows x.id) s.clients) (count_by (follows x.id) cs) one.followers (less x.id ∙ ap (λ (b : Bool). count_by (follows x.id) cs + cond b 1 0) law);
      extent = ap (λ (u : Option Instance). kept_by m i u) there ∙ sym (ap (λ (u : Option Instance). kept_by m i u) one.there) ∙ one.extent;
      given = one.given;
      made = one.made;
    }
left_shows number m s slot n cs i x false less test law one =
    let there = changed_there slot left m.instances i false (λ j. refl) test one.there in
    record {
      there = there;
      id = one.id;
      key = one.key;
      version = one.version;
      fields = one.fields;
      times = one.times;
      retired = one.retired;
      followers = one.followers ∙ none_less (count_by (follows x.id) s.clients) (count_by (follows x.id) cs) (less x.id ∙ ap (λ (b : Bool). count_by (follows x.id) cs + cond b 1 0) law);
      extent = ap (λ (u : Option Instance). kept_by m i u) there ∙ sym (ap (λ (u : Option Instance). kept_by m i u) one.there) ∙ one.extent;
      given = one.given;
      made = one.made;
    }

left_at : (number : ℕ → ℕ) (m : Memory) (s : State) (slot n : ℕ) (cs : List Client) → ShowsTable number m s → number_in number slot m.instances ≡ Some n → IsFollowedToo n cs s.clients
    → ShowsTable number (record m { instances = changed_in slot left m.instances }) (record s { clients = cs })
left_at number m s slot n cs shows at less = record {
  instances =
      mapped_left (ShowsInstance number m s) (ShowsInstance number (record m { instances = changed_in slot left m.instances }) (record s { clients = cs }))
      (λ i. cond (is_in_slot slot i) (left i) i) m.instances s.instances
      (λ i x one. left_shows number m s slot n cs i x (is_in_slot slot i) less refl (sym (instances_alike number m s slot n i x shows.apart at one)) one)
      shows.instances;
  chunks =
      also (ShowsChunk number m) (ShowsChunk number (record m { instances = changed_in slot left m.instances })) m.chunks s.chunks
      (λ c d one. chunk_stays number m (changed_in slot left m.instances) m.chunks c d (same c.owner) one) shows.chunks;
  alone = λ k. changed_alone k slot left m.instances (λ j. refl) (shows.alone k);
  apart = λ a b k first second. shows.apart a b k (sym (same a) ∙ first) (sym (same b) ∙ second);
  rows = one_row-changed slot left m.instances (λ key i. refl) shows.rows;
  once = shows.once;
  unkept = shows.unkept;
}
  where
    same : (a : ℕ) → number_in number a (changed_in slot left m.instances) ≡ number_in number a m.instances
    same a = number_in-changed number a slot left m.instances (λ j. refl) (λ j. refl)

-- ---- the last, or another

first_of : (a b : Bool) → (a && b) ≡ true → a ≡ true
first_of true b e = refl
first_of false b e = e

second_of : (a b : Bool) → (a && b) ≡ true → b ≡ true
second_of true b e = e
second_of false b e = absurd cc

not_second : (a b : Bool) → (a && b) ≡ false → a ≡ true → b ≡ false
not_second true b e is = e
not_second false b e is = absurd cc

one_less : (n : ℕ) → (n == 1) ≡ true → ((n - 1) == 0) ≡ true
one_less n is = grind (arith, nat_tests)

some_left : (n : ℕ) → (n == 1) ≡ false → (n == 0) ≡ false → ((n - 1) == 0) ≡ false
some_left n one none = grind (arith, nat_tests)

left_here : (slot : ℕ) (is : List Instance) (i : Instance) → in_slot slot is ≡ Some i → in_slot slot (changed_in slot left is) ≡ Some (left i)
left_here slot is i here =
    in_slot-changed slot slot left is (λ j. refl) ∙ ap (λ (u : Option Instance). option_map (changed_if slot left) u) here
    ∙ ap (λ (b : Bool). Some (cond b (left i) i)) (find_passes (is_in_slot slot) is i here)

still_followed : (slot : ℕ) (is : List Instance) (i : Instance) → in_slot slot is ≡ Some i → (i.is_retired && (i.followers == 1)) ≡ false → AreFollowed is → AreFollowed (changed_in slot left is)
still_followed slot is i here other needed a j there retired = by (a == slot) refl
  where
    of_it : left i ≡ j → (j.followers == 0) ≡ false
    of_it e =
        let gone : i.is_retired ≡ true = ap (λ (k : Instance). k.is_retired) e ∙ retired in
        ap (λ (k : Instance). k.followers == 0) (sym e) ∙ some_left i.followers (not_second i.is_retired (i.followers == 1) other gone) (needed slot i here gone)

    by : (b : Bool) → (a == slot) ≡ b → (j.followers == 0) ≡ false
    by true is_it = of_it (some_is (left i) j (sym (left_here slot is i here) ∙ ap (λ (k : ℕ). in_slot k (changed_in slot left is)) (sym (is_same a slot is_it)) ∙ there))
    by false isnt = needed a j (sym (in_slot-other a slot left is (λ k. refl) isnt) ∙ there) retired

leaves_at : (number : ℕ → ℕ) (m : Memory) (s : State) (slot n : ℕ) (cs : List Client) (i : Instance) (x : Known) (b : Bool) → ShowsTable number m s → AreFollowed m.instances → number_in number slot m.instances ≡ Some n
    → IsFollowedToo n cs s.clients → in_slot slot m.instances ≡ Some i → instance s n ≡ Some x → (i.is_retired && (i.followers == 1)) ≡ b
    → ShowsTable number (record m { instances = cond b (without_slot slot m.instances) (changed_in slot left m.instances); chunks = cond b (without_owner slot m.chunks) m.chunks }) (swept (record s { clients = cs }))
leaves_at number m s slot n cs i x true shows needed at less here there last =
    subst (λ (js : List Instance). ShowsTable number (record m { instances = js; chunks = without_owner slot m.chunks }) (swept (record s { clients = cs }))) (without-changed slot left m.instances (λ j. refl))
    (sweeps_one number (record m { instances = changed_in slot left m.instances }) (record s { clients = cs }) slot n (left i) x (left_at number m s slot n cs shows at less)
    (number_in-changed number slot slot left m.instances (λ j. refl) (λ j. refl) ∙ at)
    (record {
      here = left_here slot m.instances i here;
      there = there;
      retired = first_of i.is_retired (i.followers == 1) last;
      none = one_less i.followers (second_of i.is_retired (i.followers == 1) last);
      others = λ a j apart is retired. needed a j (sym (in_slot-other a slot left m.instances (λ k. refl) apart) ∙ is) retired;
    }))
leaves_at number m s slot n cs i x false shows needed at less here there other =
    sweeps_none number (record m { instances = changed_in slot left m.instances }) (record s { clients = cs }) (left_at number m s slot n cs shows at less)
    (still_followed slot m.instances i here other needed)

left_followed : (slot : ℕ) (is : List Instance) (i : Instance) (b : Bool) → in_slot slot is ≡ Some i → (i.is_retired && (i.followers == 1)) ≡ b → AreFollowed is → AreFollowed (cond b (without_slot slot is) (changed_in slot left is))
left_followed slot is i true here last needed = followed-without slot is needed
left_followed slot is i false here other needed = still_followed slot is i here other needed

less_ahead : (s : State) (n : ℕ) (cs : List Client) → IsFollowedToo n cs s.clients → NoneAhead s → NoneAhead (record s { clients = cs })
less_ahead s n cs less ahead k more = none (count_by (follows k) cs) (count_by (follows k) s.clients) (cond (k == n) 1 0) (less k) (ahead k more)
  where
    none : (a b c : ℕ) → b ≡ a + c → b ≡ 0 → a ≡ 0
    none a b c e f = omega (arith, e, f)

pub leavings_of : LeavingsAreTheLaws
unfolding swept
leavings_of number m s shows id cs there less = record {
  table =
      subst (λ (u : Option Instance). ShowsTable number (record m { instances = left_from id.slot u m.instances; chunks = given_back (is_last u) id.slot m.chunks }) (swept (record s { clients = cs }))) (sym one.here)
      (leaves_at number m s id.slot (number id.life) cs one.seen one.known (one.seen.is_retired && (one.seen.followers == 1)) shows.table shows.followed (number_of_there number id m.instances there) less one.here one.there refl);
  followed =
      subst (λ (u : Option Instance). AreFollowed (left_from id.slot u m.instances)) (sym one.here)
      (left_followed id.slot m.instances one.seen (one.seen.is_retired && (one.seen.followers == 1)) one.here refl shows.followed);
  ahead = less_ahead s (number id.life) cs less shows.ahead;
}
  where
    one : IsFound number m s id
    one = instances_of number m s shows.table id there
