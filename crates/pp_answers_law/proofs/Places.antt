-- The head of a response that is passed, with the rows of the places that it names, as the law has it.
use Rattle.std.proofs.Common.{◌≡◌, ◌+◌, refl, sym, subst, ap, ◌∙◌, ℕ, Bool, true, false, not, length, take, codes, List, [], ◌∷◌, ◌++◌, append_assoc, length-append, Some, None, Option, Ok, arith}
use Rattle.std.proofs.Math.Seq.{take-append_seam}
use Rattle.pp_cache.specs.Named.{site_of}
use Rattle.pp_flow.specs.declared.entry.Entry.{Entry}
use Rattle.pp_flow_law.specs.Tables.{Leaving}
use Rattle.pp_head.specs.Response.{Response}
use Rattle.pp_heads_law.proofs.Ruled.{invalidated as invalidates_same}
use Rattle.pp_law.specs.Lists.{Bytes}
use Rattle.pp_law.specs.OwnHeads.{key_of, relay_head}
use Rattle.pp_law.specs.State.{State, Exchange}
use Rattle.pp_law.specs.Table.{clear}
use Rattle.pp_law.specs.ThroughHeads.{clear_each, clear_named, disproved as law_disproved, invalidated as law_invalidated, invalidates as law_invalidates, is_same_host, key_named as law_key_named, places_named as law_places}
use Rattle.pp_peers.specs.declared.peers.Peer.{Peer}
use Rattle.pp_seats_law.specs.Exchanges.{ShowsExchange}
use Rattle.pp_state.specs.Astray.{astray_where}
use Rattle.pp_state.specs.Ends.{Parts, cleared_key, cleared_of}
use Rattle.pp_answers.specs.FinalHeads.{noted_body, relayed}
use Rattle.pp_state.specs.Keys.{key_of as key_in_flow}
use Rattle.pp_answers.specs.ThroughHeads.{ClearsEach, InvalidatesIf, InvalidatesRows, disproved, named_as, places_named}
use Rattle.pp_states_law.proofs.Charged.{same_entry}
use Rattle.pp_states_law.specs.Steps.{ShowsSteps}
use Rattle.pp_target.specs.Key.{Key, key_at, place_of, port_text, text_of}
use Rattle.pp_answers_law.specs.Naming.{named_at}
use Rattle.pp_answers_law.specs.Outdates.{IsKeyed, PassedHeadsAreTheLaws, WereRead, WereReadIf, WereReadOf}
use Rattle.pp_answers_law.proofs.Dropped.{there_too}
use Rattle.pp_answers_law.proofs.Others.{asks_cleared}
use Rattle.pp_answers_law.proofs.Relayed.{relays}
use Rattle.pp_answers_law.proofs.Sites.{names_same}
use Rattle.pp_answers_law.proofs.Standing.{stands_cleared}
use Rattle.pp_answers_law.proofs.Through.{IsLeft, client_cleared, disproved_left, law_invalidated_if, law_invalidated_is, through_is}
use Rattle.pp_answers_law.proofs.Useless.{exchanges_kept, key_cleared, key_is}

-- ---- one more is cleared

left_cleared : (number : ℕ → ℕ) (name : Bytes) (l : Leaving) (peers : List Peer) (p : Parts) (s : State) (n : ℕ) (x : Entry) (e : Exchange) (key : Bytes) → IsLeft number name l peers p s n x e → IsLeft number name l peers (cleared_key key p) (clear key s) n x e
left_cleared number name l peers p s n x e key left = record {
  shows = key_cleared number name l peers p s left.shows key;
  passed = record {
    answered = record { placed = left.passed.answered.placed; there = exchanges_kept key s n ∙ left.passed.answered.there };
    through = left.passed.through;
    stands = stands_cleared e key s left.passed.stands;
    asks = asks_cleared e key s left.passed.asks;
    client = client_cleared key s e left.passed.client;
  };
}

abbrev pub law_cleared_of : Option Bytes → State → State
law_cleared_of o s = elim o as (λ t. State) [ None ↦ s | Some key ↦ clear key s ]

left_of : (number : ℕ → ℕ) (name : Bytes) (l : Leaving) (peers : List Peer) (p : Parts) (s : State) (n : ℕ) (x : Entry) (e : Exchange) (o : Option Bytes) → IsLeft number name l peers p s n x e → IsLeft number name l peers (cleared_of o p) (law_cleared_of o s) n x e
left_of number name l peers p s n x e None left = left
left_of number name l peers p s n x e (Some key) left = left_cleared number name l peers p s n x e key left

-- ---- each that is named

pub named_is : (key : Key) (text : Bytes) (s : State) → clear_named key text s ≡ law_cleared_of (named_at key text) s
unfolding clear_named
named_is key text s = by (law_key_named key text)
  where
    at : (named : Key) (b : Bool) → elim b as (λ t. State) [ true ↦ clear (text_of named) s | false ↦ s ] ≡ law_cleared_of (elim b as (λ t. Option Bytes) [ true ↦ Some (text_of named) | false ↦ None ]) s
    at named true = refl
    at named false = refl

    by : (o : Option Key) → elim o as (λ t. State) [ None ↦ s | Some named ↦ elim (is_same_host named key) as (λ t. State) [ true ↦ clear (text_of named) s | false ↦ s ] ]
        ≡ law_cleared_of (elim o as (λ t. Option Bytes) [ None ↦ None | Some named ↦ elim (is_same_host named key) as (λ t. Option Bytes) [ true ↦ Some (text_of named) | false ↦ None ] ]) s
    by None = refl
    by (Some named) = at named (is_same_host named key)

pub each_first : (key : Key) (text : Bytes) (texts : List Bytes) (s : State) → clear_each key (text ∷ texts) s ≡ clear_each key texts (clear_named key text s)
unfolding clear_each
each_first key text texts s = refl

pub each_none : (key : Key) (s : State) → clear_each key [] s ≡ s
unfolding clear_each
each_none key s = refl

each_left : (number : ℕ → ℕ) (name : Bytes) (l : Leaving) (peers : List Peer) (n : ℕ) (x : Entry) (e : Exchange) (target : Bytes) (texts : List Bytes) (p new : Parts) (s : State) → key_at target ≡ Ok e.key
    → (cleared : ClearsEach (site_of e.key) texts p new) → WereRead (site_of e.key) texts p new cleared → IsLeft number name l peers p s n x e → IsLeft number name l peers new (clear_each e.key texts s) n x e
each_left number name l peers n x e target [] p new s key cleared were left =
    subst (λ (q : Parts). IsLeft number name l peers q (clear_each e.key [] s) n x e) (sym cleared) (subst (λ (t : State). IsLeft number name l peers p t n x e) (sym (each_none e.key s)) left)
each_left number name l peers n x e target (text ∷ texts) p new s key cleared were left =
    subst (λ (t : State). IsLeft number name l peers new t n x e) (sym (each_first e.key text texts s))
    (each_left number name l peers n x e target texts cleared.0 new (clear_named e.key text s) key cleared.2 were.1
    (subst (λ (q : Parts). IsLeft number name l peers q (clear_named e.key text s) n x e) (sym (cleared.1.cleared ∙ ap (λ (b : Bool). astray_where (not b) (cleared_of (named_as b (site_of e.key) text) p)) were.0 ∙ ap (λ (o : Option Bytes). cleared_of o p) (names_same e.key target text key)))
    (subst (λ (t : State). IsLeft number name l peers (cleared_of (named_at e.key text) p) t n x e) (sym (named_is e.key text s))
    (left_of number name l peers p s n x e (named_at e.key text) left))))

-- ---- its site

pub site_is : (key : Key) → take (place_of key).path (text_of key) ≡ site_of key
site_is key =
    ap (λ (m : ℕ). take m (text_of key)) len
    ∙ ap (λ (t : List ℕ). take (length (site_of key)) t) (sym (append_assoc (codes "http://") (key.host ++ port_text key.port) key.path ∙ ap (λ (t : List ℕ). codes "http://" ++ t) (append_assoc key.host (port_text key.port) key.path)))
    ∙ take-append_seam (site_of key) key.path
  where
    hosts : length (key.host ++ port_text key.port) ≡ length key.host + length (port_text key.port)
    hosts = length-append key.host (port_text key.port)

    len : (place_of key).path ≡ length (site_of key)
    len = omega (arith, hosts)

pub invalidated_with : (number : ℕ → ℕ) (name : Bytes) (l : Leaving) (peers : List Peer) (p between : Parts) (s : State) (n : ℕ) (x : Entry) (e : Exchange) (head : Response) (b : Bool) → IsLeft number name l peers p s n x e → (b ≡ true → IsKeyed x e head)
    → (it : InvalidatesIf b (key_in_flow x.exchange.number p.flow) x.errand.place.path head p between) → WereReadIf b (key_in_flow x.exchange.number p.flow) x.errand.place.path head p between it → IsLeft number name l peers between (law_invalidated_if e head s b) n x e
invalidated_with number name l peers p between s n x e head false left keyed it were = subst (λ (q : Parts). IsLeft number name l peers q s n x e) (sym it) left
invalidated_with number name l peers p between s n x e head true left keyed it were = by (key_in_flow x.exchange.number p.flow) x.errand.place.path (key_is number name l peers p s left.shows n x e left.passed.answered) one.place it were
  where
    one : IsKeyed x e head
    one = keyed refl

    first : IsLeft number name l peers (cleared_key (key_of e) p) (clear (key_of e) s) n x e
    first = left_cleared number name l peers p s n x e (key_of e) left

    at_site : (site : Bytes) → site ≡ site_of e.key → (cleared : ClearsEach site (places_named head) (cleared_key (key_of e) p) between) → WereRead site (places_named head) (cleared_key (key_of e) p) between cleared
        → IsLeft number name l peers between (clear_each e.key (law_places head) (clear (key_of e) s)) n x e
    at_site site is cleared read =
        let both : (c : ClearsEach (site_of e.key) (places_named head) (cleared_key (key_of e) p) between) × WereRead (site_of e.key) (places_named head) (cleared_key (key_of e) p) between c =
        subst (λ (u : Bytes). (c : ClearsEach u (places_named head) (cleared_key (key_of e) p) between) × WereRead u (places_named head) (cleared_key (key_of e) p) between c) is (cleared, read) in
        each_left number name l peers n x e one.target (places_named head) (cleared_key (key_of e) p) between (clear (key_of e) s) one.key both.0 both.1 first

    by : (o : Option Bytes) (path : ℕ) → o ≡ Some (key_of e) → path ≡ (place_of e.key).path → (rows : InvalidatesRows o path head p between) → WereReadOf o path head p between rows → IsLeft number name l peers between (clear_each e.key (law_places head) (clear (key_of e) s)) n x e
    by None path is at rows read = absurd (let none : None ≡ Some (key_of e) = is in cc none)
    by (Some key) path is at rows read =
        let both : (c : InvalidatesRows (Some (key_of e)) path head p between) × WereReadOf (Some (key_of e)) path head p between c =
        subst (λ (o : Option Bytes). (c : InvalidatesRows o path head p between) × WereReadOf o path head p between c) is (rows, read) in
        at_site (take path (key_of e)) (ap (λ (m : ℕ). take m (key_of e)) at ∙ site_is e.key) both.0 both.1

-- ---- all of it

pub passed_heads : PassedHeadsAreTheLaws
passed_heads number name l peers p s shows n x e head rule new passed keyed passes were =
    subst (λ (t : State). ShowsSteps number name l peers (noted_body n new) t) (sym (through_is e head rule s))
    (subst (λ (q : Parts). ShowsSteps number name l peers (noted_body n q) (relay_head e head rule (law_disproved e head (law_invalidated e head s)))) (sym (passes.passed ∙ ap (λ (q : Parts). relayed name x.exchange head rule q) passes.outdated.cleared))
    (relays number name l peers (disproved x.exchange x.errand head passes.outdated.between) (law_disproved e head (law_invalidated e head s)) behind.shows n x e head rule behind.passed.answered behind.passed.stands behind.passed.asks))
  where
    shown : ShowsExchange number x e
    shown = same_entry number name l peers p s shows n x e (there_too number name l peers p s shows n x e passed.answered)

    both : (it : InvalidatesIf (law_invalidates e head) (key_in_flow x.exchange.number p.flow) x.errand.place.path head p passes.outdated.between) × WereReadIf (law_invalidates e head) (key_in_flow x.exchange.number p.flow) x.errand.place.path head p passes.outdated.between it
    both =
        subst (λ (b : Bool). (it : InvalidatesIf b (key_in_flow x.exchange.number p.flow) x.errand.place.path head p passes.outdated.between) × WereReadIf b (key_in_flow x.exchange.number p.flow) x.errand.place.path head p passes.outdated.between it)
        (invalidates_same number x e head shown) (passes.outdated.invalidated, were)

    first : IsLeft number name l peers passes.outdated.between (law_invalidated e head s) n x e
    first =
        subst (λ (t : State). IsLeft number name l peers passes.outdated.between t n x e) (sym (law_invalidated_is e head s))
        (invalidated_with number name l peers p passes.outdated.between s n x e head (law_invalidates e head) (record { shows = shows; passed = passed }) keyed both.0 both.1)

    behind : IsLeft number name l peers (disproved x.exchange x.errand head passes.outdated.between) (law_disproved e head (law_invalidated e head s)) n x e
    behind = disproved_left number name l peers passes.outdated.between (law_invalidated e head s) n x e head first
