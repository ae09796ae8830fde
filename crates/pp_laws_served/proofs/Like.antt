-- Wants by which those are read whom the law reads, and are written to who have something to say, serve everybody whom its own serve.
use Rattle.std.proofs.Common.{◌≡◌, refl, ℕ, Bool, true, false, not, ◌&&◌, ◌||◌, List, [], ◌∷◌, Option, Some, None, inl, inr, sym, ap, ◌∙◌}
use Rattle.std.specs.List.{list_all, list_any}
use Rattle.pp_world.specs.declared.event.Wants.{Wants}
use Rattle.pp_law.specs.Connections.{front_of_line, is_outstanding, place_for}
use Rattle.pp_law.specs.Lists.{is_some_with}
use Rattle.pp_law.specs.Offers.{has_to_say}
use Rattle.pp_law.specs.Requests.{has_request}
use Rattle.pp_law.specs.Served.{accepts, accepts_rightly, has_full_pipe, has_to_ask, is_client_served, is_conn_served, is_exchange_served, is_furthest, is_held_back, is_nowhere, is_served, is_stopped, is_waiting, reads_first, reads_rightly, same, waits_for_body, wants_no_more, wants_read, wants_write}
use Rattle.pp_law.specs.State.{State, Client, Conn, Exchange}
use Rattle.pp_law.specs.Turn.{waits_for_exchange}
use Rattle.pp_laws.specs.Runs.{IsIn}
use Rattle.pp_laws.proofs.Tests.{first_holds, second_holds}
use Rattle.pp_obeys.proofs.Silent.{both_hold}
use Rattle.pp_laws_ends.specs.Ends.{AllStand, IsClientServed, IsConnServed, IsExchangeServed, wants_of}
use Rattle.pp_laws_ends.proofs.Ahead.{or_first, or_second}
use Rattle.pp_laws_ends.proofs.Wanted.{all_of, same_self}
use Rattle.pp_laws_served.specs.Served.{IsAsGood}

-- ---- lists

pub each_of_all : {A : Type 0} (p : A → Bool) (xs : List A) → list_all p xs ≡ true → (x : A) → IsIn x xs → p x ≡ true
each_of_all p [] all x i = absurd i
each_of_all p (y ∷ ys) all x (inl e) = ap p e ∙ first_holds (p y) (list_all p ys) all
each_of_all p (y ∷ ys) all x (inr i) = each_of_all p ys (second_holds (p y) (list_all p ys) all) x i

any_as : {A : Type 0} (p q : A → Bool) (xs : List A) → ((x : A) → IsIn x xs → p x ≡ q x) → list_any p xs ≡ list_any q xs
any_as p q [] alike = refl
any_as p q (x ∷ xs) alike = ap (λ b. b || list_any p xs) (alike x (inl refl)) ∙ ap (λ b. q x || b) (any_as p q xs (λ y i. alike y (inr i)))

-- ---- everybody

module _ (u : State) (h : AllStand u) (w : Wants) (g : IsAsGood u w) where
  client_too : (c : Client) → IsIn c u.clients → IsClientServed u c → is_client_served u w c ≡ true
  client_too c i served = by (has_to_say u c) refl served
    where
      law : Wants
      law = wants_of u

      waits : (not (has_request c.front) && wants_read law c.number) ≡ true → (not (has_request c.front) && wants_read w c.number) ≡ true
      waits is =
          both_hold (not (has_request c.front)) (wants_read w c.number) (first_holds (not (has_request c.front)) (wants_read law c.number) is)
          (g.reads c i (sym (h.clients c i).0 ∙ second_holds (not (has_request c.front)) (wants_read law c.number) is))

      either : (a b x : Bool) → (a ≡ true → b ≡ true) → (a || x) ≡ true → (b || x) ≡ true
      either true b x on is = or_first b x (on refl)
      either false b x on is = or_second b x is

      by : (t : Bool) → has_to_say u c ≡ t → (elim t as (λ x. Bool) [ true ↦ wants_write law c.number | false ↦ not (wants_write law c.number) && is_waiting u law c ]) ≡ true
          → (elim (has_to_say u c) as (λ x. Bool) [ true ↦ wants_write w c.number | false ↦ not (wants_write w c.number) && is_waiting u w c ]) ≡ true
      by true says at = ap (λ b. elim b as (λ x. Bool) [ true ↦ wants_write w c.number | false ↦ not (wants_write w c.number) && is_waiting u w c ]) says ∙ g.says c i ∙ says
      by false isnt at =
          ap (λ b. elim b as (λ x. Bool) [ true ↦ wants_write w c.number | false ↦ not (wants_write w c.number) && is_waiting u w c ]) isnt
          ∙ both_hold (not (wants_write w c.number)) (is_waiting u w c) (ap not (g.says c i ∙ isnt))
          (either (not (has_request c.front) && wants_read law c.number) (not (has_request c.front) && wants_read w c.number) (waits_for_exchange u c) waits (second_holds (not (wants_write law c.number)) (is_waiting u law c) at))

  held_too : (e : Exchange) → is_held_back u (wants_of u) e ≡ is_held_back u w e
  held_too e =
      any_as (λ c. wants_write (wants_of u) c.number && (has_full_pipe e c || is_furthest u e c)) (λ c. wants_write w c.number && (has_full_pipe e c || is_furthest u e c)) u.clients
      (λ c i. ap (λ b. b && (has_full_pipe e c || is_furthest u e c)) ((h.clients c i).1 ∙ sym (g.says c i)))

  conn_too : (k : Conn) → IsIn k u.conns → IsConnServed u k → is_conn_served u w k ≡ true
  conn_too k i served = by k.is_reached refl served
    where
      law : Wants
      law = wants_of u

      reads : k.is_reached ≡ true → (o : Option Exchange) → front_of_line u k ≡ o → (elim o as (λ x. Bool) [ None ↦ true | Some e ↦ is_outstanding e ]) ≡ true → wants_read w k.number ≡ wants_read law k.number
      reads reached o is awaited = g.gets k i reached (ap (λ p. elim p as (λ x. Bool) [ None ↦ true | Some e ↦ is_outstanding e ]) is ∙ awaited) ∙ sym (h.conns k i).0

      stopped : (e : Exchange) (t : Bool) → wants_read w k.number ≡ wants_read law k.number
          → (elim t as (λ x. Bool) [ true ↦ not (wants_read law k.number) && is_held_back u law e | false ↦ wants_read law k.number ]) ≡ true
          → (elim t as (λ x. Bool) [ true ↦ not (wants_read w k.number) && is_held_back u w e | false ↦ wants_read w k.number ]) ≡ true
      stopped e true alike at = ap (λ b. not b && is_held_back u w e) alike ∙ ap (λ b. not (wants_read law k.number) && b) (sym (held_too e)) ∙ at
      stopped e false alike at = alike ∙ at

      first : (e : Exchange) → k.is_reached ≡ true → front_of_line u k ≡ Some e → (t : Bool) → is_outstanding e ≡ t → (not t || reads_first u law k e) ≡ true → (not t || reads_first u w k e) ≡ true
      first e reached is false early at = refl
      first e reached is true out at = stopped e (is_stopped u e) (reads reached (Some e) is out) at

      line : k.is_reached ≡ true → (o : Option Exchange) → front_of_line u k ≡ o
          → (elim o as (λ x. Bool) [ None ↦ wants_read law k.number | Some e ↦ not (is_outstanding e) || reads_first u law k e ]) ≡ true
          → (elim o as (λ x. Bool) [ None ↦ wants_read w k.number | Some e ↦ not (is_outstanding e) || reads_first u w k e ]) ≡ true
      line reached None none at = reads reached None none refl ∙ at
      line reached (Some e) some at = first e reached some (is_outstanding e) refl at

      by : (t : Bool) → k.is_reached ≡ t → (not t || (same (has_to_ask u k) (wants_write law k.number) && reads_rightly u law k)) ≡ true
          → (not k.is_reached || (same (has_to_ask u k) (wants_write w k.number) && reads_rightly u w k)) ≡ true
      by false early at = or_first (not k.is_reached) _ (ap not early)
      by true reached at =
          or_second (not k.is_reached) _
          (both_hold (same (has_to_ask u k) (wants_write w k.number)) (reads_rightly u w k) (ap (λ b. same (has_to_ask u k) b) (g.asks k i reached) ∙ same_self (has_to_ask u k))
          (line reached (front_of_line u k) refl (second_holds (same (has_to_ask u k) (wants_write law k.number)) (reads_rightly u law k) at)))

  module _ (asked : (e : Exchange) (n : ℕ) → IsIn e u.exchanges → e.asker ≡ Some n → (c : Client) × IsIn c u.clients × (c.number ≡ n)) where
    exchange_too : (e : Exchange) → IsIn e u.exchanges → IsExchangeServed u e → is_exchange_served u w e ≡ true
    exchange_too e i served = by e.place served
      where
        read : (o : Option ℕ) → e.asker ≡ o → is_some_with (wants_read (wants_of u)) o ≡ true → is_some_with (wants_read w) o ≡ true
        read None none at = absurd (cc at)
        read (Some n) some at =
            let c = asked e n i some in
            ap (wants_read w) (sym c.2) ∙ g.reads c.0 c.1 (sym (h.clients c.0 c.1).0 ∙ ap (wants_read (wants_of u)) c.2 ∙ at)

        waits : (t : Bool) → (not t || is_some_with (wants_read (wants_of u)) e.asker) ≡ true → (not t || is_some_with (wants_read w) e.asker) ≡ true
        waits true at = read e.asker refl at
        waits false at = refl

        by : (o : Option ℕ) → (elim o as (λ x. Bool) [ None ↦ is_nowhere (place_for u e) | Some k ↦ not (waits_for_body u e) || is_some_with (wants_read (wants_of u)) e.asker ]) ≡ true
            → (elim o as (λ x. Bool) [ None ↦ is_nowhere (place_for u e) | Some k ↦ not (waits_for_body u e) || is_some_with (wants_read w) e.asker ]) ≡ true
        by None at = at
        by (Some k) at = waits (waits_for_body u e) at

-- ---- all duties

pub record AllServed (u : State) : Type 0 where
  pub clients : (c : Client) → IsIn c u.clients → IsClientServed u c
  pub conns : (k : Conn) → IsIn k u.conns → IsConnServed u k
  pub exchanges : (e : Exchange) → IsIn e u.exchanges → IsExchangeServed u e

duties_met : (a b c d e : Bool) → a ≡ true → b ≡ true → c ≡ true → d ≡ true → e ≡ true → list_all (λ x. x) (a ∷ b ∷ c ∷ d ∷ e ∷ []) ≡ true
duties_met true true true true true v w x y z = refl
duties_met false b c d e v w x y z = absurd (cc v)
duties_met true false c d e v w x y z = absurd (cc w)
duties_met true true false d e v w x y z = absurd (cc x)
duties_met true true true false e v w x y z = absurd (cc y)
duties_met true true true true false v w x y z = absurd (cc z)

pub as_good_serves : (u : State) → AllStand u → ((e : Exchange) (n : ℕ) → IsIn e u.exchanges → e.asker ≡ Some n → (c : Client) × IsIn c u.clients × (c.number ≡ n)) → AllServed u → (w : Wants) → IsAsGood u w → is_served u w ≡ true
as_good_serves u h asked all w g =
    duties_met (accepts_rightly u w) (list_all (is_client_served u w) u.clients) (list_all (is_conn_served u w) u.conns) (list_all (is_exchange_served u w) u.exchanges) (wants_no_more u w)
    (ap (λ b. same (accepts u) b) g.accept ∙ same_self (accepts u))
    (all_of (is_client_served u w) u.clients (λ c i. client_too u h w g c i (all.clients c i)))
    (all_of (is_conn_served u w) u.conns (λ k i. conn_too u h w g k i (all.conns k i)))
    (all_of (is_exchange_served u w) u.exchanges (λ e i. exchange_too u h w g asked e i (all.exchanges e i)))
    g.no_more

second_of : (a b c d e : Bool) → list_all (λ x. x) (a ∷ b ∷ c ∷ d ∷ e ∷ []) ≡ true → (b ≡ true) × (c ≡ true) × (d ≡ true)
second_of true true true true e is = (refl, refl, refl)
second_of false b c d e is = absurd (cc is)
second_of true false c d e is = absurd (cc is)
second_of true true false d e is = absurd (cc is)
second_of true true true false e is = absurd (cc is)

pub all_served : (u : State) → is_served u (wants_of u) ≡ true → AllServed u
all_served u is =
    let all = second_of (accepts_rightly u (wants_of u)) (list_all (is_client_served u (wants_of u)) u.clients) (list_all (is_conn_served u (wants_of u)) u.conns) (list_all (is_exchange_served u (wants_of u)) u.exchanges) (wants_no_more u (wants_of u)) is in
    record {
      clients = λ c i. each_of_all (is_client_served u (wants_of u)) u.clients all.0 c i;
      conns = λ k i. each_of_all (is_conn_served u (wants_of u)) u.conns all.1 k i;
      exchanges = λ e i. each_of_all (is_exchange_served u (wants_of u)) u.exchanges all.2 e i;
    }
