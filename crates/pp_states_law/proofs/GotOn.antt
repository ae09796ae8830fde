-- What the law makes of a read that is amid a head.
use Rattle.std.proofs.Common.{◌≡◌, ◌⊎◌, inl, inr, ◌<◌, ◌≤◌, refl, sym, subst, ap, ◌∙◌, ℕ, zero, suc, Bool, true, false, ◌==◌, ◌||◌, length, take, drop, List, [], ◌∷◌, ◌++◌, Some, None, Option, arith}
use Rattle.std.specs.Prelude.{option_map}
use Rattle.std.proofs.lemmas.Bool.{cases_lt}
use Rattle.std.proofs.lemmas.List.{length-append, length-drop, take-append-drop, take-append-le}
use Rattle.pp_cache_law.proofs.Finds.{find_mapped, find_passes}
use Rattle.pp_head.proofs.ResponseAgrees.{response_cut, response_stays, response_within}
use Rattle.pp_head.specs.Read.{Read, Stays, Whole, TooLong, Bad as NoHead, More}
use Rattle.pp_head.specs.Response.{Response, response_at}
use Rattle.pp_law.specs.Connections.{conn, is_conn, on_conn}
use Rattle.pp_law.specs.Lists.{Bytes}
use Rattle.pp_law.specs.Responses.{Piece, bad_head, body_piece, got, head_came, head_piece, head_piece_of, next_piece, with_unread}
use Rattle.pp_law.specs.State.{State, Answer, Conn, Exchange}
use Rattle.pp_law.specs.Connections.{close_conn}
use Rattle.pp_pipe.specs.Front.{is_interim}
use Rattle.pp_peers_law.proofs.Finds.{same_number}
use Rattle.pp_peers_law.proofs.Heads.{heads, none_read}
use Rattle.pp_peers_law.specs.Comes.{IsHeadRead, IsTextRead, behind_interim, past_interim}
use Rattle.pp_pipe.specs.Reading.{Reading}
use Rattle.pp_pipe.specs.declared.step.Step.TheVariants.{Idle}
use Rattle.pp_text.specs.Bytes.{is_empty}
use Rattle.pp_states_law.specs.Gots.{GotsAreTheLaws, GotsAreUnread, IsAmidHead}
use Rattle.pp_states_law.specs.Readings.{reading_of}
use Rattle.pp_states_law.specs.States.{ShowsState}
use Rattle.pp_states_law.proofs.ReadOn.{heads_go_on, no_final, no_refusal, shown_at}
use Rattle.pp_states_law.proofs.Rested.{changed_twice}

-- ---- a piece of it

abbrev interim_piece : Conn → Bytes → State → Response → Bool → Piece
interim_piece k text s head w = elim w as (λ x. Piece) [
  | true ↦ record { state = on_conn k.number (with_unread []) s; rest = drop head.length text }
  | false ↦ record { state = head_came k head s; rest = drop head.length text }
]

abbrev piece_by : Conn → Bytes → State → Read Response → Piece
piece_by k text s v = elim v as (λ x. Piece) [
  | More ↦ record { state = on_conn k.number (with_unread text) s; rest = [] }
  | TooLong ↦ record { state = bad_head k s; rest = [] }
  | NoHead ↦ record { state = bad_head k s; rest = [] }
  | Whole head ↦ interim_piece k text s head (is_interim head.status)
]

next_is : (s : State) (n : ℕ) (k : Conn) (bytes : Bytes) → IsAmidHead s n k → next_piece k bytes s ≡ piece_by k (k.unread ++ bytes) s (response_at (k.unread ++ bytes))
next_is s n k bytes is =
    ap (λ (o : Option Answer). elim o as (λ x. Piece) [ Some a ↦ body_piece k a bytes s | None ↦ head_piece k bytes s ]) is.none
    ∙ ap (λ (b : Bool). elim b as (λ x. Piece) [ true ↦ record { state = close_conn true k s; rest = [] } | false ↦ head_piece_of k (k.unread ++ bytes) s ]) is.due

got_some : (more n : ℕ) (s : State) (k : Conn) (b : ℕ) (bytes : Bytes) → IsAmidHead s n k → got (suc more) n (b ∷ bytes) s ≡ got more n (next_piece k (b ∷ bytes) s).rest (next_piece k (b ∷ bytes) s).state
unfolding got
got_some more n s k b bytes is =
    ap (λ (o : Option Conn). elim o as (λ x. State) [
      | None ↦ s
      | Some j ↦ elim (j.is_closing || is_empty (b ∷ bytes)) as (λ x. State) [ true ↦ s | false ↦ got more n (next_piece j (b ∷ bytes) s).rest (next_piece j (b ∷ bytes) s).state ]
    ]) is.there
    ∙ ap (λ (c : Bool). elim (c || false) as (λ x. State) [ true ↦ s | false ↦ got more n (next_piece k (b ∷ bytes) s).rest (next_piece k (b ∷ bytes) s).state ]) is.goes_on

got_none : (more n : ℕ) (s : State) → got more n [] s ≡ s
unfolding got
got_none zero n s = refl
got_none (suc more) n s = by (conn s n)
  where
    at : (b : Bool) (t : State) → (elim (b || true) as (λ x. State) [ true ↦ s | false ↦ t ]) ≡ s
    at true t = refl
    at false t = refl

    by : (o : Option Conn) → (elim o as (λ x. State) [ None ↦ s | Some j ↦ elim (j.is_closing || true) as (λ x. State) [ true ↦ s | false ↦ got more n (next_piece j [] s).rest (next_piece j [] s).state ] ]) ≡ s
    by None = refl
    by (Some j) = at j.is_closing (got more n (next_piece j [] s).rest (next_piece j [] s).state)

-- ---- an interim head is longer than what was unread of it

longer : (unread bytes : Bytes) (head : Response) → response_at unread ≡ More → response_at (unread ++ bytes) ≡ Whole head → length unread < head.length
longer unread bytes head none whole = by (cases_lt (length unread) head.length)
  where
    not_both : response_at unread ≡ Whole head → ⊥
    not_both is = let both : More ≡ Whole head = sym none ∙ is in absurd (cc both)

    stood : head.length ≤ length unread → response_at unread ≡ Whole head
    stood within =
        let enough : response_at (take head.length unread) ≡ Whole head = sym (ap response_at (take-append-le head.length unread bytes within)) ∙ (response_cut (unread ++ bytes) head whole).enough in
        let stays : Stays response_at (take head.length unread) (Whole head) = subst (Stays response_at (take head.length unread)) enough (response_stays (take head.length unread)) in
        sym (ap response_at (take-append-drop head.length unread)) ∙ stays (drop head.length unread)

    by : (length unread < head.length) ⊎ (head.length ≤ length unread) → length unread < head.length
    by (inl less) = less
    by (inr within) = absurd (not_both (stood within))

-- ---- it is passed over

abbrev cleared_if : ℕ → Conn → Conn
cleared_if n j = elim (is_conn n j) as (λ b. Conn) [ true ↦ with_unread [] j | false ↦ j ]

still_amid : (s : State) (n : ℕ) (k : Conn) → IsAmidHead s n k → IsAmidHead (on_conn n (with_unread []) s) n (with_unread [] k)
unfolding on_conn
still_amid s n k is = record {
  there =
      find_mapped (is_conn n) (cleared_if n) s.conns (λ j. number j (is_conn n j))
      ∙ ap (λ (o : Option Conn). option_map (cleared_if n) o) is.there
      ∙ ap (λ (b : Bool). Some (elim b as (λ t. Conn) [ true ↦ with_unread [] k | false ↦ k ])) (find_passes (is_conn n) s.conns k is.there);
  goes_on = is.goes_on;
  none = is.none;
  due = is.due;
  unread = none_read;
}
  where
    number : (j : Conn) (b : Bool) → is_conn n (elim b as (λ t. Conn) [ true ↦ with_unread [] j | false ↦ j ]) ≡ is_conn n j
    number j true = refl
    number j false = refl

twice : (s : State) (n : ℕ) (text : Bytes) → on_conn n (with_unread text) (on_conn n (with_unread []) s) ≡ on_conn n (with_unread text) s
unfolding on_conn
twice s n text = ap (λ (ks : List Conn). record s { conns = ks }) (changed_twice n (with_unread []) (with_unread text) (λ j. refl) s.conns)

past_nothing : (most : ℕ) → past_interim most [] ≡ []
past_nothing zero = refl
past_nothing (suc most) = ap (λ (v : Read Response). elim v as (λ x. Bytes) [ Whole head ↦ (elim (is_interim head.status) as (λ x. Bytes) [ true ↦ past_interim most (drop head.length []) | false ↦ [] ]) | TooLong ↦ [] | NoHead ↦ [] | More ↦ [] ]) none_read

abbrev on_from : ℕ → Bytes → Response → Bool → Bytes
on_from most text head w = elim w as (λ x. Bytes) [ true ↦ past_interim most (drop head.length text) | false ↦ text ]

abbrev past_by : ℕ → Bytes → Read Response → Bytes
past_by most text v = elim v as (λ x. Bytes) [ Whole head ↦ on_from most text head (is_interim head.status) | TooLong ↦ text | NoHead ↦ text | More ↦ text ]

abbrev Passes : ℕ → ℕ → Type 0
Passes more n = (s : State) (k : Conn) (b : ℕ) (bytes : Bytes) (most : ℕ) → length (b ∷ bytes) ≤ more → length (k.unread ++ b ∷ bytes) ≤ most → IsAmidHead s n k → response_at (past_interim most (k.unread ++ b ∷ bytes)) ≡ More
    → got more n (b ∷ bytes) s ≡ on_conn n (with_unread (past_interim most (k.unread ++ b ∷ bytes))) s

behind : (more n : ℕ) → Passes more n → (s : State) (k : Conn) (most : ℕ) (rest : Bytes) → IsAmidHead s n k → length rest ≤ more → length rest ≤ most → response_at (past_interim most rest) ≡ More
    → got more n rest (on_conn n (with_unread []) s) ≡ on_conn n (with_unread (past_interim most rest)) s
behind more n passes s k most [] is few long last = got_none more n (on_conn n (with_unread []) s) ∙ ap (λ (text : Bytes). on_conn n (with_unread text) s) (sym (past_nothing most))
behind more n passes s k most (c ∷ rest) is few long last =
    passes (on_conn n (with_unread []) s) (with_unread [] k) c rest most few long (still_amid s n k is) last ∙ twice s n (past_interim most (c ∷ rest))

passed_one : (more n : ℕ) → Passes more n → (s : State) (k : Conn) (b : ℕ) (bytes : Bytes) (most : ℕ) → length (b ∷ bytes) ≤ suc more → length (k.unread ++ b ∷ bytes) ≤ suc most → IsAmidHead s n k
    → response_at (past_interim (suc most) (k.unread ++ b ∷ bytes)) ≡ More → got (suc more) n (b ∷ bytes) s ≡ on_conn n (with_unread (past_interim (suc most) (k.unread ++ b ∷ bytes))) s
passed_one more n passes s k b bytes most few long is last = got_some more n s k b bytes is ∙ ap (λ (x : Piece). got more n x.rest x.state) (next_is s n k (b ∷ bytes) is) ∙ by (response_at text) refl last
  where
    text : Bytes
    text = k.unread ++ b ∷ bytes

    at : k.number ≡ n
    at = same_number k.number n (find_passes (is_conn n) s.conns k is.there)

    no_more : (head : Response) → response_at text ≡ Whole head → response_at text ≡ More → ⊥
    no_more head one other = let both : Whole head ≡ More = sym one ∙ other in absurd (cc both)

    less : (head : Response) → response_at text ≡ Whole head → length (drop head.length text) ≤ more
    less head whole = omega (arith, longer k.unread (b ∷ bytes) head is.unread whole, few, length-drop head.length text, length-append k.unread (b ∷ bytes))

    fewer : (head : Response) → response_at text ≡ Whole head → length (drop head.length text) ≤ most
    fewer head whole = let w = response_within text head whole in omega (arith, long, length-drop head.length text, w.some, w.within)

    interim : (head : Response) (w : Bool) → response_at text ≡ Whole head → response_at (on_from most text head w) ≡ More
        → got more n (interim_piece k text s head w).rest (interim_piece k text s head w).state ≡ on_conn n (with_unread (on_from most text head w)) s
    interim head false whole final = absurd (no_more head whole final)
    interim head true whole final =
        ap (λ (i : ℕ). got more n (drop head.length text) (on_conn i (with_unread []) s)) at ∙ behind more n passes s k most (drop head.length text) is (less head whole) (fewer head whole) final

    by : (v : Read Response) → response_at text ≡ v → response_at (past_by most text v) ≡ More → got more n (piece_by k text s v).rest (piece_by k text s v).state ≡ on_conn n (with_unread (past_by most text v)) s
    by More whole final = got_none more n (on_conn k.number (with_unread text) s) ∙ ap (λ (i : ℕ). on_conn i (with_unread text) s) at
    by TooLong whole final = let both : TooLong ≡ More = sym whole ∙ final in absurd (cc both)
    by NoHead whole final = let both : NoHead ≡ More = sym whole ∙ final in absurd (cc both)
    by (Whole head) whole final = interim head (is_interim head.status) whole final

passed : (more n : ℕ) → Passes more n
passed zero n s k b bytes most few long is last = absurd (omega (arith, few))
passed (suc more) n s k b bytes zero few long is last = absurd (omega (arith, long, length-append k.unread (b ∷ bytes)))
passed (suc more) n s k b bytes (suc most) few long is last = passed_one more n (passed more n) s k b bytes most few long is last

the_same : (n : ℕ) → n ≤ n
the_same n = omega arith

pub gots : GotsAreUnread
gots s n k b bytes is last = passed (length (b ∷ bytes)) n s k b bytes (length (k.unread ++ b ∷ bytes)) (the_same (length (b ∷ bytes))) (the_same (length (k.unread ++ b ∷ bytes))) is last

-- ---- and what the pipe shows of it

waits_more : (e : Exchange) (text bytes : Bytes) (read : Read Response) (used : ℕ) (left : Reading) → IsHeadRead e text bytes read used Idle left → read ≡ More
waits_more e text bytes (Whole head) used left is = absurd (no_final e head (drop head.length text) bytes (head.status == 101) used left is.1)
waits_more e text bytes TooLong used left is = absurd (no_refusal bytes used left is)
waits_more e text bytes NoHead used left is = absurd (no_refusal bytes used left is)
waits_more e text bytes More used left is = refl

pub gots_shown : GotsAreTheLaws
gots_shown number name owed l p s shows peer k e b bytes used left apart is amid first fed =
    subst (λ (t : State). ShowsState number name owed l (reading_of k.number peer left peer.stays p) t) (sym (gots s k.number k b bytes amid (waits_more e text (b ∷ bytes) (response_at text) used left read)))
    (heads_go_on number name owed l p s shows peer k e b bytes used left apart is amid.none amid.due first fed)
  where
    text : Bytes
    text = behind_interim (k.unread ++ b ∷ bytes)

    read : IsTextRead e k.unread (b ∷ bytes) used Idle left
    read = heads s peer k e (b ∷ bytes) used Idle left (shown_at s k.number p.peers s.conns peer k is.linked is.there shows.conns) is.goes_on amid.none amid.due first fed
