-- Interim heads are dropped piece by piece.
use Rattle.std.proofs.Common.{◌≡◌, ◌+◌, ◌⊎◌, inl, inr, ◌<◌, ◌≤◌, refl, sym, subst, ap, ap₂, ◌∙◌, ℕ, zero, suc, Bool, true, false, drop, length, take, List, [], ◌∷◌, ◌++◌, Option, Some, None, arith}
use Rattle.std.proofs.lemmas.Bool.{cases_lt}
use Rattle.std.proofs.lemmas.List.{length-append, length-drop, take-append-drop, take-append-le}
use Rattle.pp_cache_law.proofs.Finds.{find_passes}
use Rattle.pp_endings_law.proofs.GoneShort.{found_set}
use Rattle.pp_flow_law.proofs.Entries.{same_number}
use Rattle.pp_head.proofs.ResponseAgrees.{response_cut, response_stays, response_within}
use Rattle.pp_head.specs.Read.{Read, Stays, Whole, TooLong, Bad as NoHead, More}
use Rattle.pp_head.specs.Response.{Response, response_at}
use Rattle.pp_law.specs.Connections.{close_conn, is_conn, on_conn}
use Rattle.pp_law.specs.Lists.{Bytes}
use Rattle.pp_law.specs.Responses.{Piece, body_piece, got, head_came, head_piece, head_piece_of, next_piece, with_unread}
use Rattle.pp_law.specs.State.{State, Answer, Conn}
use Rattle.pp_peers_law.proofs.Heads.{none_read}
use Rattle.pp_peers_law.specs.Comes.{past_interim}
use Rattle.pp_pipe.specs.Front.{is_interim}
use Rattle.pp_states_law.proofs.Rested.{changed_twice}
use Rattle.pp_states_law.specs.Gots.{IsAmidHead}
use Rattle.pp_reads_law.proofs.Amid.{got_step}
use Rattle.pp_reads_law.proofs.Awaited.{pieces}
use Rattle.pp_reads_law.specs.Interims.{InterimsArePassed, IsClearedTo, IsPassedTo}

-- ---- an interim head is longer than what was unread of it

longer : (unread bytes : Bytes) (head : Response) → response_at unread ≡ More → response_at (unread ++ bytes) ≡ Whole head → length unread < head.length
longer unread bytes head none whole = by (cases_lt (length unread) head.length)
  where
    not_both : response_at unread ≡ Whole head → ⊥
    not_both is = let both : More ≡ Whole head = sym none ∙ is in absurd (cc both)

    stood : head.length ≤ length unread → response_at unread ≡ Whole head
    stood within =
        let enough : response_at (take head.length unread) ≡ Whole head = sym (ap response_at (take-append-le head.length unread bytes within)) ∙ (response_cut (unread ++ bytes) head whole).enough in
        let stays : Stays response_at (take head.length unread) (Whole head) = subst (Stays response_at (take head.length unread)) enough (response_stays (take head.length unread)) in
        sym (ap response_at (take-append-drop head.length unread)) ∙ stays (drop head.length unread)

    by : (length unread < head.length) ⊎ (head.length ≤ length unread) → length unread < head.length
    by (inl less) = less
    by (inr within) = absurd (not_both (stood within))

-- ---- a connection with nothing unread

cleared_amid : (s : State) (n : ℕ) (k : Conn) → IsAmidHead s n k → IsAmidHead (on_conn n (with_unread []) s) n (with_unread [] k)
unfolding on_conn
cleared_amid s n k is = record { there = found_set n (with_unread []) s k (λ j. refl) is.there; goes_on = is.goes_on; none = is.none; due = is.due; unread = none_read }

twice : (s : State) (n : ℕ) → on_conn n (with_unread []) (on_conn n (with_unread []) s) ≡ on_conn n (with_unread []) s
unfolding on_conn
twice s n = ap (λ (ks : List Conn). record s { conns = ks }) (changed_twice n (with_unread []) (with_unread []) (λ j. refl) s.conns)

cleared_to : (s : State) (n : ℕ) (k before : Conn) (t : State) → IsClearedTo (on_conn n (with_unread []) s) n (with_unread [] k) before t → IsClearedTo s n k before t
cleared_to s n k before t (inl same) = inr same
cleared_to s n k before t (inr again) = inr (again.0, again.1 ∙ twice s n)

-- ---- what is behind them

abbrev on_from : ℕ → Bytes → Response → Bool → Bytes
on_from most text head w = elim w as (λ x. Bytes) [ true ↦ past_interim most (drop head.length text) | false ↦ text ]

abbrev past_by : ℕ → Bytes → Read Response → Bytes
past_by most text v = elim v as (λ x. Bytes) [ Whole head ↦ on_from most text head (is_interim head.status) | TooLong ↦ text | NoHead ↦ text | More ↦ text ]

past_nothing : (most : ℕ) → past_interim most [] ≡ []
past_nothing zero = refl
past_nothing (suc most) = ap (λ (v : Read Response). past_by most [] v) none_read

next_is : (s : State) (n : ℕ) (k : Conn) (bytes : Bytes) → IsAmidHead s n k → next_piece k bytes s ≡ pieces s k (k.unread ++ bytes) (response_at (k.unread ++ bytes))
next_is s n k bytes is =
    ap (λ (o : Option Answer). elim o as (λ x. Piece) [ Some a ↦ body_piece k a bytes s | None ↦ head_piece k bytes s ]) is.none
    ∙ ap (λ (b : Bool). elim b as (λ x. Piece) [ true ↦ record { state = close_conn true k s; rest = [] } | false ↦ head_piece_of k (k.unread ++ bytes) s ]) is.due

-- ---- by how many pieces there may be

one_more : (l : ℕ) → 1 + l ≡ suc l
one_more l = omega arith

more_pieces : (m l : ℕ) → suc m + l ≡ suc (m + l)
more_pieces m l = omega arith

abbrev Passes : ℕ → ℕ → Type 0
Passes more n = (s : State) (k : Conn) (b : ℕ) (bytes : Bytes) (most : ℕ) → length (b ∷ bytes) ≤ more → length (k.unread ++ b ∷ bytes) ≤ most → IsAmidHead s n k → (response_at (past_interim most (k.unread ++ b ∷ bytes)) ≡ More → ⊥)
    → IsPassedTo more s n k (b ∷ bytes) (past_interim most (k.unread ++ b ∷ bytes))

module _ (more n : ℕ) (passes : Passes more n) (s : State) (k : Conn) (b : ℕ) (bytes : Bytes) (most : ℕ) (few : length (b ∷ bytes) ≤ suc more) (long : length (k.unread ++ b ∷ bytes) ≤ suc most) (is : IsAmidHead s n k) where
  abbrev text : Bytes
  text = k.unread ++ b ∷ bytes

  at : k.number ≡ n
  at = same_number k.number n (find_passes (is_conn n) s.conns k is.there)

  by_pieces : (later : ℕ) (v : Read Response) → response_at text ≡ v → got (suc later) n (b ∷ bytes) s ≡ got later n (pieces s k text v).rest (pieces s k text v).state
  by_pieces later v whole = got_step later n b bytes s k (record { there = is.there; goes_on = is.goes_on }) ∙ ap (λ (p : Piece). got later n p.rest p.state) (next_is s n k (b ∷ bytes) is ∙ ap (λ (u : Read Response). pieces s k text u) whole)

  step : (v : Read Response) → response_at text ≡ v → got (suc more) n (b ∷ bytes) s ≡ got more n (pieces s k text v).rest (pieces s k text v).state
  step v whole = by_pieces more v whole

  shorter : (head : Response) → response_at text ≡ Whole head → length (drop head.length text) ≤ more
  shorter head whole = omega (arith, longer k.unread (b ∷ bytes) head is.unread whole, few, length-drop head.length text, length-append k.unread (b ∷ bytes))

  fewer : (head : Response) → response_at text ≡ Whole head → length (drop head.length text) ≤ most
  fewer head whole = let w = response_within text head whole in omega (arith, long, length-drop head.length text, w.some, w.within)

  -- it stands there
  itself : IsPassedTo (suc more) s n k (b ∷ bytes) text
  itself = record {
    before = k;
    then = s;
    stands = inl (refl, refl);
    less = more;
    law = step (response_at text) refl;
    enough = λ head whole. shorter head whole;
    pieces = 1;
    comes = λ further. ap (λ (i : ℕ). got i n (b ∷ bytes) s) (one_more further) ∙ by_pieces further (response_at text) refl;
  }

  later : (head : Response) → response_at text ≡ Whole head → is_interim head.status ≡ true → (rest : Bytes) → drop head.length text ≡ rest → (response_at (past_interim most rest) ≡ More → ⊥) → IsPassedTo (suc more) s n k (b ∷ bytes) (past_interim most rest)
  later head whole interim [] drops some = absurd (some (ap response_at (past_nothing most) ∙ none_read))
  later head whole interim (c ∷ rest) drops some =
      let one : IsPassedTo more (on_conn n (with_unread []) s) n (with_unread [] k) (c ∷ rest) (past_interim most (c ∷ rest)) =
      passes (on_conn n (with_unread []) s) (with_unread [] k) c rest most (subst (λ (bs : Bytes). length bs ≤ more) drops (shorter head whole)) (subst (λ (bs : Bytes). length bs ≤ most) drops (fewer head whole)) (cleared_amid s n k is) some in
      record {
        before = one.before;
        then = one.then;
        stands = cleared_to s n k one.before one.then one.stands;
        less = one.less;
        law = past_it more ∙ one.law;
        enough = one.enough;
        pieces = suc one.pieces;
        comes = λ further. ap (λ (i : ℕ). got i n (b ∷ bytes) s) (more_pieces one.pieces further) ∙ past_it (one.pieces + further) ∙ one.comes further;
      }
    where
      interim_by : Bool → Piece
      interim_by w = elim w as (λ p. Piece) [ true ↦ record { state = on_conn k.number (with_unread []) s; rest = drop head.length text } | false ↦ record { state = head_came k head s; rest = drop head.length text } ]

      past_it : (later : ℕ) → got (suc later) n (b ∷ bytes) s ≡ got later n (c ∷ rest) (on_conn n (with_unread []) s)
      past_it later =
          by_pieces later (Whole head) whole
          ∙ ap (λ (w : Bool). got later n (interim_by w).rest (interim_by w).state) interim
          ∙ ap₂ (λ (i : ℕ) (bs : Bytes). got later n bs (on_conn i (with_unread []) s)) at drops

  by_kind : (head : Response) (w : Bool) → response_at text ≡ Whole head → is_interim head.status ≡ w → (response_at (on_from most text head w) ≡ More → ⊥) → IsPassedTo (suc more) s n k (b ∷ bytes) (on_from most text head w)
  by_kind head false whole is_it some = itself
  by_kind head true whole is_it some = later head whole is_it (drop head.length text) refl some

  by_text : (v : Read Response) → response_at text ≡ v → (response_at (past_by most text v) ≡ More → ⊥) → IsPassedTo (suc more) s n k (b ∷ bytes) (past_by most text v)
  by_text (Whole head) whole some = by_kind head (is_interim head.status) whole refl some
  by_text TooLong whole some = itself
  by_text NoHead whole some = itself
  by_text More whole some = itself

  one_passed : (response_at (past_interim (suc most) text) ≡ More → ⊥) → IsPassedTo (suc more) s n k (b ∷ bytes) (past_interim (suc most) text)
  one_passed some = by_text (response_at text) refl some

passed : (more n : ℕ) → Passes more n
passed zero n s k b bytes most few long is some = absurd (omega (arith, few))
passed (suc more) n s k b bytes zero few long is some = absurd (omega (arith, long, length-append k.unread (b ∷ bytes)))
passed (suc more) n s k b bytes (suc most) few long is some = one_passed more n (passed more n) s k b bytes most few long is some

the_same : (n : ℕ) → n ≤ n
the_same n = omega arith

pub interims : InterimsArePassed
interims s n k b bytes is some = passed (length (b ∷ bytes)) n s k b bytes (length (k.unread ++ b ∷ bytes)) (the_same (length (b ∷ bytes))) (the_same (length (k.unread ++ b ∷ bytes))) is some
