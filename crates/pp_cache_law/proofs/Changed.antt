-- What is changed in the cache, or leaves it, is changed in the table of the law, or leaves that.
use Rattle.std.proofs.Common.{◌≡◌, ◌≤◌, ◌<◌, ◌+◌, refl, sym, subst, ap, ◌∙◌, ℕ, Bool, true, false, ◌==◌, cond, List, Some, arith}
use Rattle.std.specs.Prelude.{count_by}
use Rattle.std.proofs.lemmas.Bool.Decides.{nat_tests}
use Rattle.pp_cache.specs.Memory.{Memory}
use Rattle.pp_fresh.specs.declared.aging.Times.{Times}
use Rattle.pp_head.specs.Response.{Response}
use Rattle.pp_law.specs.OwnHeads.{renew, renewed}
use Rattle.pp_law.specs.State.{State, Client, Instance as Known}
use Rattle.pp_law.specs.Table.{follows, forget, instance, mark_row, on_instance}
use Rattle.pp_objects.specs.Changes.{changed_in, refreshed}
use Rattle.pp_objects.specs.Instances.{is_there}
use Rattle.pp_objects.specs.declared.id.ObjectId.{ObjectId}
use Rattle.pp_cache_law.specs.Changes.{FollowingsAreTheLaws, ForgettingsAreTheLaws, IsFollowedToo, MarksAreTheLaws, RenewalsAreTheLaws}
use Rattle.pp_cache_law.specs.Reads.{IsFound}
use Rattle.pp_cache_law.specs.Tables.{NoneAhead, ShowsTable}
use Rattle.pp_cache_law.proofs.Alike.{instances_of}
use Rattle.pp_cache_law.proofs.Followed.{followed-changed, followed-marked, followed-too, followed-without}
use Rattle.pp_cache_law.proofs.Moves.{forgets_at, marks_at, number_in-changed}
use Rattle.pp_cache_law.proofs.Numbers.{number_of_there, some_is}
use Rattle.pp_cache_law.proofs.Renewing.{follows_at, renewed_at}

pub marks_of : MarksAreTheLaws
unfolding mark_row
marks_of number m s shows id there = record {
  table = marks_at number m s id.slot (number id.life) shows.table (number_of_there number id m.instances there);
  followed = followed-marked id.slot m.instances shows.followed;
  ahead = shows.ahead;
}

pub forgettings_of : ForgettingsAreTheLaws
unfolding forget
forgettings_of number m s shows id there = record {
  table = forgets_at number m s id.slot (number id.life) shows.table (number_of_there number id m.instances there);
  followed = followed-without id.slot m.instances shows.followed;
  ahead = shows.ahead;
}

-- the number of one that is there
pub its_number : (number : ℕ → ℕ) (m : Memory) (s : State) (id : ObjectId) (x : Known) → ShowsTable number m s → is_there id m.instances ≡ true → instance s (number id.life) ≡ Some x → number id.life ≡ x.id
its_number number m s id x shows there known =
    let one : IsFound number m s id = instances_of number m s shows id there in
    ap number (ap (λ (other : ObjectId). other.life) (sym one.same)) ∙ one.shows.id ∙ ap (λ (y : Known). y.id) (some_is one.known x (sym one.there ∙ known))

renews_at : (number : ℕ → ℕ) (m : Memory) (s : State) (id : ObjectId) (x : Known) (head : Response) (times : Times) → ShowsTable number m s → is_there id m.instances ≡ true → instance s (number id.life) ≡ Some x
    → ShowsTable number (record m { instances = changed_in id.slot (refreshed head.fields times) m.instances }) (on_instance x.id (renewed head times) s)
renews_at number m s id x head times shows there known =
    renewed_at number m s id.slot x.id head times shows (number_of_there number id m.instances there ∙ ap (λ (n : ℕ). Some n) (its_number number m s id x shows there known))

pub renewals_of : RenewalsAreTheLaws
unfolding renew mark_row on_instance
renewals_of number m s shows id x head times there known = record {
  table =
      marks_at number (record m { instances = changed_in id.slot (refreshed head.fields times) m.instances }) (on_instance x.id (renewed head times) s) id.slot x.id
      (renews_at number m s id x head times shows.table there known)
      (number_in-changed number id.slot id.slot (refreshed head.fields times) m.instances (λ j. refl) (λ j. refl)
      ∙ number_of_there number id m.instances there ∙ ap (λ (n : ℕ). Some n) (its_number number m s id x shows.table there known));
  followed =
      followed-marked id.slot (changed_in id.slot (refreshed head.fields times) m.instances)
      (followed-changed id.slot (refreshed head.fields times) m.instances (λ j. refl) (λ j. refl) (λ j some. some) shows.followed);
  ahead = shows.ahead;
}

apart_from : (k n next : ℕ) → n < next → next ≤ k → (k == n) ≡ false
apart_from k n next less more = grind (arith, nat_tests)

more_ahead : (s : State) (n : ℕ) (cs : List Client) → n < s.next_instance → IsFollowedToo n s.clients cs → NoneAhead s → NoneAhead (record s { clients = cs })
more_ahead s n cs less too ahead k more =
    too k ∙ ap (λ (b : Bool). count_by (follows k) s.clients + cond b 1 0) (apart_from k n s.next_instance less more) ∙ none (count_by (follows k) s.clients) (ahead k more)
  where
    none : (a : ℕ) → a ≡ 0 → a + 0 ≡ 0
    none a e = omega (arith, e)

pub followings_of : FollowingsAreTheLaws
followings_of number m s shows id cs there too = record {
  table = follows_at number m s id cs shows.table there too;
  followed = followed-too id.slot m.instances shows.followed;
  ahead = more_ahead s (number id.life) cs below too shows.ahead;
}
  where
    below : number id.life < s.next_instance
    below =
        let one : IsFound number m s id = instances_of number m s shows.table id there in
        subst (λ (n : ℕ). n < s.next_instance) (sym (its_number number m s id one.known shows.table there one.there)) one.shows.made
