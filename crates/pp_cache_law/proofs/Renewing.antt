-- An instance that is changed in its slot is changed as the law has it.
use Rattle.std.proofs.Common.{◌≡◌, ◌+◌, refl, sym, subst, ap, ◌∙◌, ℕ, Bool, true, false, cond, List, Option, Some, option_map, arith}
use Rattle.std.specs.Prelude.{count_by}
use Rattle.pp_cache.specs.Memory.{Memory}
use Rattle.pp_fresh.specs.declared.aging.Times.{Times}
use Rattle.pp_head.specs.Response.{Response}
use Rattle.pp_law.specs.Lists.{change}
use Rattle.pp_law.specs.OwnHeads.{renewed}
use Rattle.pp_law.specs.State.{State, Client, Instance as Known}
use Rattle.pp_law.specs.Table.{follows, is_instance, on_instance}
use Rattle.pp_objects.specs.Changes.{changed_in, followed, refreshed}
use Rattle.pp_objects.specs.Instances.{Instance, in_slot, is_in_slot, is_there}
use Rattle.pp_objects.specs.Kept.{refreshed_of}
use Rattle.pp_objects.specs.declared.id.ObjectId.{ObjectId}
use Rattle.pp_objects.proofs.OneRow.{one_row-changed}
use Rattle.pp_text.specs.Fields.{Field}
use Rattle.pp_cache_law.specs.Changes.{IsFollowedToo}
use Rattle.pp_cache_law.specs.Tables.{ShowsChunk, ShowsInstance, ShowsTable, number_in}
use Rattle.pp_cache_law.proofs.Moves.{changed_alone, changed_if, chunk_stays, in_slot-changed, kept_by, number_in-changed}
use Rattle.pp_cache_law.proofs.Numbers.{instances_alike, number_of_there}
use Rattle.pp_cache_law.proofs.PairLemmas.{also, mapped, mapped_left}

-- what is changed stands where it stood
pub changed_there : (k : ℕ) (f : Instance → Instance) (is : List Instance) (i : Instance) (b : Bool) → ((j : Instance) → (f j).slot ≡ j.slot) → is_in_slot k i ≡ b → in_slot i.slot is ≡ Some i
    → in_slot i.slot (changed_in k f is) ≡ Some (cond b (f i) i)
changed_there k f is i b same test there = in_slot-changed i.slot k f is same ∙ ap (λ (u : Option Instance). option_map (changed_if k f) u) there ∙ ap (λ (c : Bool). Some (cond c (f i) i)) test

-- ---- a later response

abbrev renewed_if : ℕ → Response → Times → Known → Known
renewed_if n head times x = elim (is_instance n x) [ true ↦ renewed head times x | false ↦ x ]

renewed_shows : (number : ℕ → ℕ) (m : Memory) (s : State) (slot n : ℕ) (head : Response) (times : Times) (i : Instance) (x : Known) (b : Bool) → is_in_slot slot i ≡ b → ShowsInstance number m s i x
    → ShowsInstance number (record m { instances = changed_in slot (refreshed head.fields times) m.instances }) (record s { instances = change (is_instance n) (renewed head times) s.instances })
    (cond b (refreshed head.fields times i) i) (elim b as (λ c. Known) [ true ↦ renewed head times x | false ↦ x ])
renewed_shows number m s slot n head times i x true test one =
    let there = changed_there slot (refreshed head.fields times) m.instances i true (λ j. refl) test one.there in
    record {
      there = there;
      id = one.id;
      key = one.key;
      version = one.version;
      fields = ap (λ (fields : List Field). refreshed_of fields head.fields times) one.fields;
      times = refl;
      retired = one.retired;
      followers = one.followers;
      extent = ap (λ (u : Option Instance). kept_by m i u) there ∙ sym (ap (λ (u : Option Instance). kept_by m i u) one.there) ∙ one.extent;
      given = one.given;
      made = one.made;
    }
renewed_shows number m s slot n head times i x false test one =
    let there = changed_there slot (refreshed head.fields times) m.instances i false (λ j. refl) test one.there in
    record {
      there = there;
      id = one.id;
      key = one.key;
      version = one.version;
      fields = one.fields;
      times = one.times;
      retired = one.retired;
      followers = one.followers;
      extent = ap (λ (u : Option Instance). kept_by m i u) there ∙ sym (ap (λ (u : Option Instance). kept_by m i u) one.there) ∙ one.extent;
      given = one.given;
      made = one.made;
    }

pub renewed_at : (number : ℕ → ℕ) (m : Memory) (s : State) (slot n : ℕ) (head : Response) (times : Times) → ShowsTable number m s → number_in number slot m.instances ≡ Some n
    → ShowsTable number (record m { instances = changed_in slot (refreshed head.fields times) m.instances }) (on_instance n (renewed head times) s)
unfolding on_instance
renewed_at number m s slot n head times shows at = record {
  instances =
      mapped (ShowsInstance number m s)
      (ShowsInstance number (record m { instances = changed_in slot (refreshed head.fields times) m.instances }) (record s { instances = change (is_instance n) (renewed head times) s.instances }))
      (λ i. cond (is_in_slot slot i) (refreshed head.fields times i) i) (renewed_if n head times) m.instances s.instances each shows.instances;
  chunks =
      also (ShowsChunk number m) (ShowsChunk number (record m { instances = changed_in slot (refreshed head.fields times) m.instances })) m.chunks s.chunks
      (λ c d one. chunk_stays number m (changed_in slot (refreshed head.fields times) m.instances) m.chunks c d (same c.owner) one) shows.chunks;
  alone = λ k. changed_alone k slot (refreshed head.fields times) m.instances (λ j. refl) (shows.alone k);
  apart = λ a b k first second. shows.apart a b k (sym (same a) ∙ first) (sym (same b) ∙ second);
  rows = one_row-changed slot (refreshed head.fields times) m.instances (λ key i. refl) shows.rows;
  once = shows.once;
  unkept = shows.unkept;
}
  where
    same : (a : ℕ) → number_in number a (changed_in slot (refreshed head.fields times) m.instances) ≡ number_in number a m.instances
    same a = number_in-changed number a slot (refreshed head.fields times) m.instances (λ j. refl) (λ j. refl)

    each : (i : Instance) (x : Known) → ShowsInstance number m s i x
        → ShowsInstance number (record m { instances = changed_in slot (refreshed head.fields times) m.instances }) (record s { instances = change (is_instance n) (renewed head times) s.instances })
        (cond (is_in_slot slot i) (refreshed head.fields times i) i) (elim (is_instance n x) as (λ c. Known) [ true ↦ renewed head times x | false ↦ x ])
    each i x one =
        subst (λ (b : Bool). ShowsInstance number (record m { instances = changed_in slot (refreshed head.fields times) m.instances }) (record s { instances = change (is_instance n) (renewed head times) s.instances })
        (cond (is_in_slot slot i) (refreshed head.fields times i) i) (elim b as (λ c. Known) [ true ↦ renewed head times x | false ↦ x ]))
        (instances_alike number m s slot n i x shows.apart at one)
        (renewed_shows number m s slot n head times i x (is_in_slot slot i) refl one)

-- ---- a follower more

followed_shows : (number : ℕ → ℕ) (m : Memory) (s : State) (slot n : ℕ) (cs : List Client) (i : Instance) (x : Known) (b : Bool) → IsFollowedToo n s.clients cs → is_in_slot slot i ≡ b → is_instance n x ≡ b
    → ShowsInstance number m s i x → ShowsInstance number (record m { instances = changed_in slot followed m.instances }) (record s { clients = cs }) (cond b (followed i) i) x
followed_shows number m s slot n cs i x true too test law one =
    let there = changed_there slot followed m.instances i true (λ j. refl) test one.there in
    record {
      there = there;
      id = one.id;
      key = one.key;
      version = one.version;
      fields = one.fields;
      times = one.times;
      retired = one.retired;
      followers = ap (λ (k : ℕ). k + 1) one.followers ∙ sym (too x.id ∙ ap (λ (b : Bool). count_by (follows x.id) s.clients + cond b 1 0) law);
      extent = ap (λ (u : Option Instance). kept_by m i u) there ∙ sym (ap (λ (u : Option Instance). kept_by m i u) one.there) ∙ one.extent;
      given = one.given;
      made = one.made;
    }
followed_shows number m s slot n cs i x false too test law one =
    let there = changed_there slot followed m.instances i false (λ j. refl) test one.there in
    record {
      there = there;
      id = one.id;
      key = one.key;
      version = one.version;
      fields = one.fields;
      times = one.times;
      retired = one.retired;
      followers = one.followers ∙ sym (too x.id ∙ ap (λ (b : Bool). count_by (follows x.id) s.clients + cond b 1 0) law ∙ none_more (count_by (follows x.id) s.clients));
      extent = ap (λ (u : Option Instance). kept_by m i u) there ∙ sym (ap (λ (u : Option Instance). kept_by m i u) one.there) ∙ one.extent;
      given = one.given;
      made = one.made;
    }
  where
    none_more : (k : ℕ) → k + 0 ≡ k
    none_more k = omega arith

pub follows_at : (number : ℕ → ℕ) (m : Memory) (s : State) (id : ObjectId) (cs : List Client) → ShowsTable number m s → is_there id m.instances ≡ true → IsFollowedToo (number id.life) s.clients cs
    → ShowsTable number (record m { instances = changed_in id.slot followed m.instances }) (record s { clients = cs })
follows_at number m s id cs shows there too = record {
  instances =
      mapped_left (ShowsInstance number m s) (ShowsInstance number (record m { instances = changed_in id.slot followed m.instances }) (record s { clients = cs }))
      (λ i. cond (is_in_slot id.slot i) (followed i) i) m.instances s.instances
      (λ i x one. followed_shows number m s id.slot (number id.life) cs i x (is_in_slot id.slot i) too refl
      (sym (instances_alike number m s id.slot (number id.life) i x shows.apart (number_of_there number id m.instances there) one)) one)
      shows.instances;
  chunks =
      also (ShowsChunk number m) (ShowsChunk number (record m { instances = changed_in id.slot followed m.instances })) m.chunks s.chunks
      (λ c d one. chunk_stays number m (changed_in id.slot followed m.instances) m.chunks c d (same c.owner) one) shows.chunks;
  alone = λ k. changed_alone k id.slot followed m.instances (λ j. refl) (shows.alone k);
  apart = λ a b k first second. shows.apart a b k (sym (same a) ∙ first) (sym (same b) ∙ second);
  rows = one_row-changed id.slot followed m.instances (λ key i. refl) shows.rows;
  once = shows.once;
  unkept = shows.unkept;
}
  where
    same : (a : ℕ) → number_in number a (changed_in id.slot followed m.instances) ≡ number_in number a m.instances
    same a = number_in-changed number a id.slot followed m.instances (λ j. refl) (λ j. refl)
