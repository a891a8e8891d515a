-- Worked cases of sheets and plans, by computing the definitions: sheet A of document 01 and its plan; the empty sheet and the empty plan;
-- a sheet of 2,142 bytes. Assumes nothing.
use Rattle.std.specs.Prelude.{◌≡◌, refl, List, [], ◌∷◌, ◌++◌, map, ℕ, zero, suc, length, replicate}
use Rattle.bits.specs.Field.{field_of, with_bit, put_bit, put_field}
use Rattle.lists.specs.Filled.{filled}
use Rattle.numbers.specs.Numbers.{fine, cut_short, wrong_plan}
use Rattle.numbers.specs.First.{met, first_met, first_of}
use Rattle.model.specs.Limits.{longest_sheet}
use Rattle.model.specs.None.{no_module, no_partition, no_exclusion, no_chain, no_plan}
use Rattle.model.specs.Rules.{version_tests, version_rule, count_tests, count_rule, head_rule, diagonal_rule, partition_tests, partition_rule, exclusion_tests, exclusion_rule, length_tests, length_rule, member_tests, member_rule, members_rule}
use Rattle.model.specs.Decoded.{large, head_large, module_large, partition_large, exclusion_large, lead_large, members_large, decoded_head, decoded_partition, decoded_exclusion, decoded_chain, decoded_modules, decoded_delays, decoded_partitions, decoded_exclusions, decoded_chains, decoded_number}
use Rattle.model.specs.declared.records.Sheet.{Sheet}
use Rattle.layout.specs.Layout.{chain_at}
use Rattle.layout.specs.Values.{sheet_of, delays_of}
use Rattle.reader.specs.Number.{short, head_number, record_rule, record_number, part_number, parts_number, lead_number, members_number, chain_number, chains_number, end_number, body_number, sheet_number}
use Rattle.reader.specs.Plan.{plan_number, plan_of, plan_read, with_placement, with_placements, plan_bytes}

-- Sheet A, in hex: 10 82 00 00 00 00 C8 08 00 00 00 10 00 04 00 02 80 01 80 00 40 00 28
unfoldable pub sheet_a : List ℕ
sheet_a =
    16 ∷ 130 ∷ 0 ∷ 0 ∷ 0 ∷ 0 ∷ 200 ∷ 8 ∷ 0 ∷ 0 ∷ 0 ∷ 16 ∷ 0 ∷ 4 ∷ 0 ∷ 2 ∷ 128 ∷ 1 ∷ 128 ∷ 0 ∷ 64 ∷ 0 ∷ 40 ∷ []

-- ---- the numbers, one table
pub record Case : Type 0 where
  pub bytes : List ℕ
  pub number : ℕ

unfoldable pub cases : List Case
cases =
    record { bytes = []; number = cut_short } ∷
    record { bytes = sheet_a; number = fine } ∷
    record { bytes = sheet_a ++ (0 ∷ []); number = 17 } ∷ []

pub worked : map (λ (c : Case). sheet_number c.bytes) cases ≡ map (λ (c : Case). c.number) cases
unfolding cases sheet_a field_of filled met first_met first_of version_tests version_rule count_tests count_rule head_rule diagonal_rule partition_tests partition_rule exclusion_tests exclusion_rule length_tests length_rule member_tests member_rule members_rule chain_at short head_number record_rule record_number part_number parts_number lead_number members_number chain_number chains_number end_number body_number sheet_number
worked = refl

-- ---- sheet A: one module (cabinet 0, memory 100, at most 2); partitions 4/1/10 and 6/1/10 as T/B/memory
pub sheet_a_reads : sheet_of sheet_a
    ≡ record {
      head = record { version = 1; modules = 1; partitions = 2; exclusions = 0; chains = 0; spare = 0 };
      modules = record { cabinet = 0; memory = 100; most = 2 } ∷ replicate 15 no_module;
      partitions = record { period = 4; budget = 1; memory = 10 } ∷ record { period = 6; budget = 1; memory = 10 } ∷ replicate 62 no_partition;
      exclusions = replicate 400 no_exclusion;
      chains = replicate 32 no_chain;
    }
unfolding sheet_a sheet_of field_of filled
sheet_a_reads = refl

pub delays_a_read : delays_of sheet_a ≡ replicate 16 (replicate 16 0)
unfolding sheet_a delays_of field_of filled
delays_a_read = refl

-- ---- values past a count are not read: sheet A's values with rubbish behind them, where no rule holds, still have the number 0
unfoldable pub with_rubbish : Sheet
with_rubbish =
    record {
      head = record { version = 1; modules = 1; partitions = 2; exclusions = 0; chains = 0; spare = 0 };
      modules = record { cabinet = 0; memory = 100; most = 2 } ∷ replicate 15 (record { cabinet = 255; memory = 4294967295; most = 255 });
      partitions = record { period = 4; budget = 1; memory = 10 } ∷ record { period = 6; budget = 1; memory = 10 }
          ∷ replicate 62 (record { period = 0; budget = 4294967295; memory = 4294967295 });
      exclusions = replicate 400 (record { kind = 255; first = 9; second = 9 });
      chains = replicate 32 (record { limit = 4294967295; length = 255; members = replicate 16 255 });
    }

pub rubbish_not_read : decoded_number with_rubbish ((0 ∷ replicate 15 65535) ∷ replicate 15 (replicate 16 65535)) ≡ 0
unfolding with_rubbish met first_met first_of version_tests version_rule count_tests count_rule head_rule diagonal_rule partition_tests partition_rule exclusion_tests exclusion_rule length_tests length_rule member_tests member_rule members_rule large head_large module_large partition_large exclusion_large lead_large members_large decoded_head decoded_partition decoded_exclusion decoded_chain decoded_modules decoded_delays decoded_partitions decoded_exclusions decoded_chains decoded_number
rubbish_not_read = refl

-- ---- plan 00 00 00 00 01 has both on module 0, starts 0 and 1
pub plan_a_reads : plan_read (0 ∷ 0 ∷ 0 ∷ 0 ∷ 1 ∷ []) 2
    ≡ record { number = fine; plan = record { modules = replicate 64 0; starts = 0 ∷ 1 ∷ replicate 62 0 } }
unfolding plan_read plan_number plan_of field_of filled met
plan_a_reads = refl

pub plan_a_bytes : plan_bytes (0 ∷ 0 ∷ []) (0 ∷ 1 ∷ []) 2 ≡ 0 ∷ 0 ∷ 0 ∷ 0 ∷ 1 ∷ []
unfolding plan_bytes with_placements with_placement put_field put_bit with_bit
plan_a_bytes = refl

-- An empty plan is 18
pub empty_plan : plan_read [] 2 ≡ record { number = wrong_plan; plan = no_plan }
unfolding plan_read plan_number met
empty_plan = refl

-- ---- one sheet has 2,142 bytes: 16 modules of zeros, their delays 0, 64 partitions of T = B = 1, 400 exclusions of partitions 0 and 1, and 32
-- chains of 16 members 0, 1, 0, 1, ..; blocks of two partitions, eight exclusions and eight chains end at a byte
unfoldable pub times : ℕ → List ℕ → List ℕ
times zero xs = []
times (suc n) xs = xs ++ times n xs

unfoldable pub two_partitions : List ℕ
two_partitions = 0 ∷ 1 ∷ 0 ∷ 1 ∷ 0 ∷ 0 ∷ 0 ∷ 0 ∷ 16 ∷ 0 ∷ 16 ∷ 0 ∷ 0 ∷ []

unfoldable pub eight_exclusions : List ℕ
eight_exclusions = 0 ∷ 8 ∷ 0 ∷ 64 ∷ 2 ∷ 0 ∷ 16 ∷ 0 ∷ 128 ∷ 4 ∷ 0 ∷ 32 ∷ 1 ∷ []

unfoldable pub eight_chains : List ℕ
eight_chains =
    0 ∷ 0 ∷ 0 ∷ 128 ∷ 0 ∷ 128 ∷ 8 ∷ 0 ∷ 128 ∷ 8 ∷ 0 ∷ 128 ∷ 8 ∷ 0 ∷ 128 ∷ 8 ∷
    0 ∷ 0 ∷ 4 ∷ 0 ∷ 4 ∷ 0 ∷ 64 ∷ 4 ∷ 0 ∷ 64 ∷ 4 ∷ 0 ∷ 64 ∷ 4 ∷ 0 ∷ 64 ∷
    0 ∷ 0 ∷ 32 ∷ 0 ∷ 32 ∷ 2 ∷ 0 ∷ 32 ∷ 2 ∷ 0 ∷ 32 ∷ 2 ∷ 0 ∷ 32 ∷ 2 ∷ 0 ∷
    0 ∷ 1 ∷ 0 ∷ 1 ∷ 0 ∷ 16 ∷ 1 ∷ 0 ∷ 16 ∷ 1 ∷ 0 ∷ 16 ∷ 1 ∷ 0 ∷ 16 ∷ 0 ∷
    0 ∷ 8 ∷ 0 ∷ 8 ∷ 0 ∷ 128 ∷ 8 ∷ 0 ∷ 128 ∷ 8 ∷ 0 ∷ 128 ∷ 8 ∷ 0 ∷ 128 ∷ 0 ∷
    0 ∷ 64 ∷ 0 ∷ 64 ∷ 4 ∷ 0 ∷ 64 ∷ 4 ∷ 0 ∷ 64 ∷ 4 ∷ 0 ∷ 64 ∷ 4 ∷ 0 ∷ 0 ∷
    2 ∷ 0 ∷ 2 ∷ 0 ∷ 32 ∷ 2 ∷ 0 ∷ 32 ∷ 2 ∷ 0 ∷ 32 ∷ 2 ∷ 0 ∷ 32 ∷ 0 ∷ 0 ∷
    16 ∷ 0 ∷ 16 ∷ 1 ∷ 0 ∷ 16 ∷ 1 ∷ 0 ∷ 16 ∷ 1 ∷ 0 ∷ 16 ∷ 1 ∷ []

unfoldable pub long_sheet : List ℕ
long_sheet =
    (24 ∷ 64 ∷ 200 ∷ 64 ∷ []) ++ (replicate 572 0 ++ (times 32 two_partitions ++ (times 50 eight_exclusions ++ times 4 eight_chains)))

pub long_sheet_length : length long_sheet ≡ longest_sheet
unfolding long_sheet times two_partitions eight_exclusions eight_chains
long_sheet_length = refl

pub long_sheet_accepted : sheet_number long_sheet ≡ 0
unfolding long_sheet times two_partitions eight_exclusions eight_chains field_of filled met first_met first_of version_tests version_rule count_tests count_rule head_rule diagonal_rule partition_tests partition_rule exclusion_tests exclusion_rule length_tests length_rule member_tests member_rule members_rule chain_at short head_number record_rule record_number part_number parts_number lead_number members_number chain_number chains_number end_number body_number sheet_number
long_sheet_accepted = refl
