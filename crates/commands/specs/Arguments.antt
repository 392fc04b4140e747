-- The words of a line at their places, counted from 1, as the commands take them.
use Rattle.std.specs.Prelude.{ℕ, zero, suc, ◌+◌, ◌-◌, ◌^◌, cond, List, [], ℤ, Some, None, Ok, Err, Option, Result, nat_le, slice_index_or}
use Rattle.command_error.specs.declared.CommandError.{CommandError}
use Rattle.command_error.specs.declared.CommandError.TheVariants.{NotANumber, TooManyRows}
use Rattle.calendar.specs.declared.instant.Timestamp.{Timestamp}
use Rattle.commands.specs.declared.command.Shifts.{Shifts}
use Rattle.commands.specs.declared.command.Shifts.TheVariants.{Unshifted, One, Two, Three}
use Rattle.commands.specs.Numerals.{numeral_of, signed_of}

-- what is made of the value, where there is no error
abbrev pub and_then : {T U : Type 0} → Result T CommandError → (T → Result U CommandError) → Result U CommandError
and_then (Ok x) f = f x
and_then (Err e) f = Err e

-- the value, or the error that the word is no number
abbrev pub or_not_aNumber : {T : Type 0} → ℕ → Option T → Result T CommandError
or_not_aNumber place None = Err (NotANumber place)
or_not_aNumber place (Some x) = Ok x

abbrev pub word_at : List (List ℕ) → ℕ → List ℕ
word_at ws place = slice_index_or ws (place - 1) []

abbrev pub number_at : ℕ → List (List ℕ) → ℕ → Result ℕ CommandError
number_at most ws place = or_not_aNumber place (numeral_of most (word_at ws place))

-- the number of a row or of a journal entry
abbrev pub index_at : List (List ℕ) → ℕ → Result ℕ CommandError
index_at ws place = number_at (2 ^ 64 - 1) ws place

-- how many rows there is to be memory for
abbrev pub rows_at : List (List ℕ) → ℕ → Result ℕ CommandError
rows_at ws place = and_then (number_at (2 ^ 64 - 1) ws place) (λ n. cond (nat_le n 8192) (Ok n) (Err (TooManyRows place)))

-- a day, and microseconds in the next word
abbrev pub moment_at : List (List ℕ) → ℕ → Result Timestamp CommandError
moment_at ws place =
    and_then (number_at (2 ^ 32 - 1) ws place) (λ day. and_then (number_at (2 ^ 64 - 1) ws (place + 1)) (λ micros. Ok (record { day = day; micros = micros })))

abbrev pub shift_at : List (List ℕ) → ℕ → Result ℤ CommandError
shift_at ws place = or_not_aNumber place (signed_of (word_at ws place))

-- so many shifts from the fourth word on
abbrev pub shifts_of : ℕ → List (List ℕ) → Result Shifts CommandError
shifts_of zero ws = Ok Unshifted
shifts_of (suc zero) ws = and_then (shift_at ws 4) (λ a. Ok (One a))
shifts_of (suc (suc zero)) ws = and_then (shift_at ws 4) (λ a. and_then (shift_at ws 5) (λ b. Ok (Two a b)))
shifts_of (suc (suc (suc n))) ws = and_then (shift_at ws 4) (λ a. and_then (shift_at ws 5) (λ b. and_then (shift_at ws 6) (λ c. Ok (Three a b c))))
