-- How many chunks there are in each phase: where an event is awaited, and from the disk on, there is room for 32 more.
use Rattle.std.proofs.Common.{◌≡◌, ◌⊎◌, refl, ℕ, zero, suc, ◌+◌, ◌-◌, ◌/◌, ◌≤◌, Bool, true, false, not, ◌&&◌, List, [], ◌∷◌, map, filter, min, length, is_some, Option, Some, None, inl, inr, sym, subst, ap, ◌∙◌, zero-le, le_refl, le_trans, arith}
use Rattle.std.proofs.Math.Nat.{min-le_right}
use Rattle.pp_conf.specs.Conf.{Settings}
use Rattle.pp_evict.specs.Victims.{victim_in}
use Rattle.pp_text.specs.Bytes.{is_empty}
use Rattle.pp_world.specs.declared.event.Wants.{Wants}
use Rattle.pp_law.specs.Chunks.{floor, is_chunk, used_of, victim}
use Rattle.pp_law.specs.Connections.{placing}
use Rattle.pp_law.specs.Followers.{fill, give_up_asks}
use Rattle.pp_law.specs.Opening.{is_at, is_same_phase}
use Rattle.pp_law.specs.Phases.{is_awaiting, phases, in_phase, behind, next, is_done, is_done_with, is_free, come, come_to, passed, decides, come_to_decide, deciding, due_victim}
use Rattle.pp_law.specs.State.{State, Phase, Before, IsWoken, IsConfigured, IsRooted, IsListed, IsListening, IsStuck, Awaiting, Handling, Evicting, Keeping, Deciding, Following, Connecting, DecidingAgain, Owed, Free, ReadOf, WriteTo, Answer, Chunk, Client, Conn}
use Rattle.pp_law.specs.Store.{is_at_rest}
use Rattle.pp_law.specs.Table.{pins, pin_of_client}
use Rattle.pp_law.specs.Unseen.{drop_unseen}
use Rattle.pp_laws.specs.Runs.{IsIn}
use Rattle.pp_laws.proofs.Tests.{first_holds, second_holds}
use Rattle.pp_laws_bounds.specs.Bounds.{HasFewPins}
use Rattle.pp_laws_bounds.proofs.Kept.{is_early}
use Rattle.pp_laws_pool.proofs.ChunkLists.{AreApart, no_victim}
use Rattle.pp_laws_pool.proofs.PoolFacts.{As, Facts, IsNear, Pool, calm, pool_begins, pool_places, pool_walk}
use Rattle.pp_laws_pool.proofs.View.{View, Walk, Holds, holds, facts_of, view}
use Rattle.pp_laws_pool.proofs.WalkClients.{fill-keeps, give_up_asks-keeps}
use Rattle.pp_laws_pool.proofs.WalkSteps.{drop_unseen-keeps, placing-keeps}

-- the event, and the chunks that leave behind it
abbrev pub is_busy : Phase → Bool
is_busy Handling = true
is_busy Evicting = true
is_busy phase = false

-- where we are, and how many chunks there are at most; nothing is set apart
abbrev pub Where : Settings → Phase → Owed → ℕ → As
Where settings phase owed most = record { settings = settings; phase = phase; owed = owed; most = most; but = None; line = None }

-- while something is owed to the event, nothing joined
abbrev pub Owes : Settings → Phase → Owed → ℕ → Type 0
Owes c phase owed most = (owed ≡ Free) ⊎ ((phase ≡ Handling) × (most ≤ calm c))

pub record Quiet (s : State) : Type 0 where
  pub settings : Settings
  pub phase : Phase
  pub owed : Owed
  pub most : ℕ
  pub held : Holds (Pool (Where settings phase owed most)) s
  pub marked : 512 ≤ settings.critical
  pub within : most ≤ settings.critical
  pub few : is_busy phase ≡ false → most ≤ calm settings
  pub none_yet : is_early phase ≡ true → most ≤ 0
  pub owes : Owes settings phase owed most

-- a chunk was loaded for the client that is written to: all others leave room for 32. The disk is at rest
pub record Loaded (s : State) : Type 0 where
  pub settings : Settings
  pub client : ℕ
  pub held : Holds (Pool (Where settings Handling (WriteTo client) (calm settings + 1))) s
  pub marked : 512 ≤ settings.critical
  pub place : ℕ × ℕ
  pub others : length (filter (λ x. not (is_chunk place.0 place.1 x)) s.chunks) ≤ calm settings
  pub theirs : (x : Client) → IsIn x s.clients → x.number ≡ client → pin_of_client s x ≡ Some place
  pub idle : is_at_rest s ≡ true

abbrev pub Inv : State → Type 0
Inv s = Quiet s ⊎ Loaded s

pub at_phase : {s : State} → (i : Quiet s) → s.phase ≡ i.phase
at_phase i = (facts_of i.held).at

pub in_owed : {s : State} → (i : Quiet s) → s.owed ≡ i.owed
in_owed i = (facts_of i.held).owes

-- ---- what may be said of another state

calm_within : (critical n : ℕ) → n ≤ critical - 32 → n ≤ critical
calm_within critical n le = omega arith

-- with room for 32, and nothing owed
pub rests : (c : Settings) (phase : Phase) (most : ℕ) (s : State) → 512 ≤ c.critical → most ≤ calm c → (is_early phase ≡ true → most ≤ 0) → Holds (Pool (Where c phase Free most)) s → Quiet s
rests c phase most s marked few none_yet h = record {
  settings = c;
  phase = phase;
  owed = Free;
  most = most;
  held = h;
  marked = marked;
  within = calm_within c.critical most few;
  few = λ is. few;
  none_yet = none_yet;
  owes = inl refl;
}

-- in the midst of an event, and nothing owed any more
pub works : (c : Settings) (phase : Phase) (most : ℕ) (s : State) → is_busy phase ≡ true → 512 ≤ c.critical → most ≤ c.critical → Holds (Pool (Where c phase Free most)) s → Quiet s
works c phase most s busy marked within h = record {
  settings = c;
  phase = phase;
  owed = Free;
  most = most;
  held = h;
  marked = marked;
  within = within;
  few = λ is. let both : true ≡ false = sym busy ∙ is in absurd (cc both);
  none_yet = λ is. early phase busy is;
  owes = inl refl;
}
  where
    early : (p : Phase) → is_busy p ≡ true → is_early p ≡ true → most ≤ 0
    early Handling at is = absurd (cc is)
    early Evicting at is = absurd (cc is)
    early p at is = absurd (cc at)

-- ---- from phase to phase

-- in another phase, with other work
pub rephased : (c : Settings) (phase phase2 : Phase) (owed owed2 : Owed) (most : ℕ) (s : State) → Holds (Pool (Where c phase owed most)) s → Holds (Pool (Where c phase2 owed2 most)) (record s { phase = phase2; owed = owed2 })
rephased c phase phase2 owed owed2 most s h = holds (record {
  set = (facts_of h).set;
  at = refl;
  owes = refl;
  few = (facts_of h).few;
  apart = (facts_of h).apart;
  near = (facts_of h).near;
  going = (facts_of h).going;
  unread = (facts_of h).unread;
  lined = (facts_of h).lined;
})

-- in another phase alone
pub moved_to : (c : Settings) (phase phase2 : Phase) (owed : Owed) (most : ℕ) (s : State) → Holds (Pool (Where c phase owed most)) s → Holds (Pool (Where c phase2 owed most)) (in_phase phase2 s)
moved_to c phase phase2 owed most s h = holds (record {
  set = (facts_of h).set;
  at = refl;
  owes = (facts_of h).owes;
  few = (facts_of h).few;
  apart = (facts_of h).apart;
  near = (facts_of h).near;
  going = (facts_of h).going;
  unread = (facts_of h).unread;
  lined = (facts_of h).lined;
})

-- fewer are known to be there
pub fewer : (c : Settings) (phase : Phase) (owed : Owed) (most most2 : ℕ) (s : State) → length s.chunks ≤ most2 → Holds (Pool (Where c phase owed most)) s → Holds (Pool (Where c phase owed most2)) s
fewer c phase owed most most2 s few h = holds (record {
  set = (facts_of h).set;
  at = (facts_of h).at;
  owes = (facts_of h).owes;
  few = few;
  apart = (facts_of h).apart;
  near = (facts_of h).near;
  going = (facts_of h).going;
  unread = (facts_of h).unread;
  lined = (facts_of h).lined;
})

nothing_owed : (o : Owed) → is_free o ≡ true → o ≡ Free
nothing_owed Free is = refl
nothing_owed (ReadOf n) is = absurd (cc is)
nothing_owed (WriteTo n) is = absurd (cc is)

-- an event is handled, so what was owed is done
pub free_at : {s : State} → (i : Quiet s) → (i.phase ≡ Handling → ⊥) → i.owed ≡ Free
free_at i apart = by i.owes
  where
    by : (i.owed ≡ Free) ⊎ ((i.phase ≡ Handling) × (i.most ≤ calm i.settings)) → i.owed ≡ Free
    by (inl free) = free
    by (inr w) = absurd (apart w.0)

-- chunks left until there is room for 32
evicted_few : (c : Settings) (owed : Owed) (most : ℕ) (s : State) → 512 ≤ c.critical → HasFewPins s → due_victim s ≡ None → Holds (Pool (Where c Evicting owed most)) s → length s.chunks ≤ calm c
evicted_few c owed most s marked few_pins none h = near (facts_of h).near
  where
    at_floor : (length s.chunks ≤ floor s) ⊎ (length s.chunks ≤ length (pins s)) → length s.chunks ≤ calm c
    at_floor (inl le) = subst (λ (x : Settings). length s.chunks ≤ calm x) (facts_of h).set (le_trans le (min-le_right s.settings.low (s.settings.critical - 32)))
    at_floor (inr le) = let few : length (pins s) ≤ 320 = few_pins in omega (arith, le, marked)

    going : (t : Bool) → s.is_evicting ≡ t → t ≡ true → (elim t as (λ x. Option (ℕ × ℕ)) [ true ↦ victim (pins s) s | false ↦ None ]) ≡ None → length s.chunks ≤ calm c
    going true is at gone = at_floor (no_victim (pins s) (floor s) s.chunks (facts_of h).apart gone)
    going false is at gone = absurd (cc at)

    near : IsNear c s.is_evicting s.chunks → length s.chunks ≤ calm c
    near (inl is) = going s.is_evicting refl is none
    near (inr le) = le

-- the pins are few while chunks may have to go
abbrev pub NearPins : State → Type 0
NearPins s = is_busy s.phase ≡ true → HasFewPins s

pub record Went (s : State) : Type 0 where
  pub inv : Quiet s
  pub pinned : NearPins s

settled : (c : Settings) (phase : Phase) (most : ℕ) (s : State) → is_busy phase ≡ false → is_early phase ≡ false → 512 ≤ c.critical → most ≤ calm c → Holds (Pool (Where c phase Free most)) s → Went s
settled c phase most s calmly late marked few h = record {
  inv = rests c phase most s marked few (λ is. let both : true ≡ false = sym is ∙ late in absurd (cc both)) h;
  pinned = λ busy. let both : true ≡ false = sym busy ∙ ap is_busy (facts_of h).at ∙ calmly in absurd (cc both);
}

none_due : (t : Bool) (o : Option (ℕ × ℕ)) → (t && not (is_some o)) ≡ true → o ≡ None
none_due true None is = refl
none_due true (Some p) is = absurd (cc is)
none_due false o is = absurd (cc is)

-- the phase, the work and the chunks of a state, as they are known
pub as_phase : (c : Settings) (p q : Phase) (owed owed2 : Owed) (most : ℕ) (s : State) → p ≡ q → owed ≡ owed2 → Holds (Pool (Where c p owed most)) s → Holds (Pool (Where c q owed2 most)) s
as_phase c p q owed owed2 most s e f h = subst (λ x. Holds (Pool (Where c x owed2 most)) s) e (subst (λ x. Holds (Pool (Where c p x most)) s) f h)

-- a phase that is done brings the next
next_went : (s : State) → is_done s ≡ true → Went s → Went (next s)
unfolding next
next_went s done w = by s.phase refl done
  where
    i : Quiet s
    i = w.inv

    -- as its phase is known
    known : (p : Phase) → s.phase ≡ p → Holds (Pool (Where i.settings p i.owed i.most)) s
    known p is = as_phase i.settings i.phase p i.owed i.owed i.most s (sym (at_phase i) ∙ is) refl i.held

    free : (p : Phase) → s.phase ≡ p → (p ≡ Handling → ⊥) → i.owed ≡ Free
    free p is apart = free_at i (λ e. apart (sym is ∙ at_phase i ∙ e))

    known_free : (p : Phase) → s.phase ≡ p → (p ≡ Handling → ⊥) → Holds (Pool (Where i.settings p Free i.most)) s
    known_free p is apart = as_phase i.settings p p i.owed Free i.most s refl (free p is apart) (known p is)

    few : (p : Phase) → s.phase ≡ p → is_busy p ≡ false → i.most ≤ calm i.settings
    few p is calmly = i.few (ap is_busy (sym (at_phase i) ∙ is) ∙ calmly)

    by : (p : Phase) → s.phase ≡ p → is_done_with p s ≡ true → Went (behind p s)
    by Before is d = w
    by IsWoken is d = w
    by IsConfigured is d = w
    by IsRooted is d = w
    by IsListed is d = w
    by IsListening is d = w
    by IsStuck is d = w
    by Awaiting is d = w
    by DecidingAgain is d = w
    by Handling is d = record {
      inv = works i.settings Evicting i.most (in_phase Evicting s) refl i.marked i.within
          (moved_to i.settings Handling Evicting Free i.most s (as_phase i.settings Handling Handling i.owed Free i.most s refl (sym (in_owed i) ∙ nothing_owed s.owed d) (known Handling is)));
      pinned = λ busy. w.pinned (ap is_busy is);
    }
    by Evicting is d =
        let le : length s.chunks ≤ calm i.settings = evicted_few i.settings i.owed i.most s i.marked (w.pinned (ap is_busy is)) (none_due (is_empty s.forgotten) (due_victim s) d) (known Evicting is) in
        settled i.settings Keeping (calm i.settings) _ refl refl i.marked (le_refl (calm i.settings))
        (give_up_asks-keeps (pool_walk (Where i.settings Keeping Free (calm i.settings))) _ (moved_to i.settings Evicting Keeping Free (calm i.settings) s (fewer i.settings Evicting Free i.most (calm i.settings) s le (known_free Evicting is (λ e. absurd (cc e))))))
    by Keeping is d = settled i.settings Deciding i.most _ refl refl i.marked (few Keeping is refl) (moved_to i.settings Keeping Deciding Free i.most s (known_free Keeping is (λ e. absurd (cc e))))
    by Deciding is d = settled i.settings Following i.most _ refl refl i.marked (few Deciding is refl) (moved_to i.settings Deciding Following Free i.most s (known_free Deciding is (λ e. absurd (cc e))))
    by Following is d =
        let a : As = Where i.settings Connecting Free i.most in
        settled i.settings Connecting i.most _ refl refl i.marked (few Following is refl)
        (fill-keeps (pool_walk a) (pool_begins a) _
        (give_up_asks-keeps (pool_walk a) _ (drop_unseen-keeps (pool_walk a) _ (moved_to i.settings Following Connecting Free i.most s (known_free Following is (λ e. absurd (cc e)))))))
    by Connecting is d =
        settled i.settings DecidingAgain i.most _ refl refl i.marked (few Connecting is refl)
        (placing-keeps (pool_places (Where i.settings DecidingAgain Free i.most) refl) _ (moved_to i.settings Connecting DecidingAgain Free i.most s (known_free Connecting is (λ e. absurd (cc e)))))

went_when : (t : Bool) {x y : State} → (t ≡ true → Went x) → (t ≡ false → Went y) → Went (elim t as (λ c. State) [ true ↦ x | false ↦ y ])
went_when true hx hy = hx refl
went_when false hx hy = hy refl

come_went : (stops : State → Bool) (ps : List Phase) (s : State) → Went s → Went (come stops ps s)
unfolding come
come_went stops [] s w = w
come_went stops (p ∷ ps) s w = come_went stops ps _ (went_when (is_at p s) (λ here. went_when (stops s) (λ yes. w) (λ no. went_when (is_done s) (λ done. next_went s done w) (λ isnt. w))) (λ away. w))

pub come_to-went : (phase : Phase) (s : State) → Went s → Went (come_to phase s)
unfolding come_to
come_to-went phase s w = come_went (is_at phase) phases s w

pub come_to_decide-went : (s : State) → Went s → Went (come_to_decide s)
unfolding come_to_decide
come_to_decide-went s w = come_went decides phases s w

-- ---- what every step of an event does

-- it keeps all that is said of the pool, where no answer is set apart and no line is looked at
abbrev pub Keeps : State → State → Type 0
Keeps s t = (c : Settings) (phase : Phase) (owed : Owed) (most : ℕ) → Holds (Pool (Where c phase owed most)) s → Holds (Pool (Where c phase owed most)) t

pub stays : {s : State} (t : State) → Keeps s t → Quiet s → Quiet t
stays t keeps i = record {
  settings = i.settings;
  phase = i.phase;
  owed = i.owed;
  most = i.most;
  held = keeps i.settings i.phase i.owed i.most i.held;
  marked = i.marked;
  within = i.within;
  few = i.few;
  none_yet = i.none_yet;
  owes = i.owes;
}

-- an event, where nothing was owed
pub handled : {s : State} → (i : Quiet s) → is_awaiting s ≡ true → (c : Settings) × (most : ℕ) × (512 ≤ c.critical) × (most ≤ calm c) × Holds (Pool (Where c Awaiting Free most)) s
handled {s} i at = (i.settings, i.most, i.marked, i.few (ap is_busy is), as_phase i.settings i.phase Awaiting i.owed Free i.most s is (free_at i (λ e. apart (sym is ∙ e))) i.held)
  where
    same : (p : Phase) → is_same_phase Awaiting p ≡ true → p ≡ Awaiting
    same Awaiting hit = refl
    same p hit = grind arith

    is : i.phase ≡ Awaiting
    is = sym (at_phase i) ∙ same s.phase at

    apart : Awaiting ≡ Handling → ⊥
    apart e = cc e
