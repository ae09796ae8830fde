-- How a tag lies in its room of 1,024 bytes.
use Rattle.std.specs.Prelude.{◌≡◌, ℕ, ◌-◌, ◌≤◌, true, List, ◌++◌, length, take, drop, replicate}
use Rattle.std.proofs.Common.{sym, ap, ◌∙◌, subst, take-append-drop, length-take-le}
use Rattle.pp_valid.specs.Tags.{is_strong_tag}

-- the room has a strong tag at its front, and zeros behind it
pub record IsTagIn (room : List ℕ) (len : ℕ) : Type 0 where
  pub room_full : length room ≡ 1024
  pub len_within : len ≤ 1024
  pub strong : is_strong_tag (take len room) ≡ true
  pub zeros : drop len room ≡ replicate (1024 - len) 0

-- the tag gives back the room that it lies in
pub len_back : (room : List ℕ) (len : ℕ) → IsTagIn room len → length (take len room) ≡ len
len_back room len is = length-take-le len room (subst (λ (n : ℕ). len ≤ n) (sym is.room_full) is.len_within)

pub room_back : (room : List ℕ) (len : ℕ) → IsTagIn room len → take len room ++ replicate (1024 - length (take len room)) 0 ≡ room
room_back room len is =
    ap (λ (n : ℕ). take len room ++ replicate (1024 - n) 0) (len_back room len is)
    ∙ ap (λ (zeros : List ℕ). take len room ++ zeros) (sym is.zeros)
    ∙ take-append-drop len room
