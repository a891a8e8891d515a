-- The one statement about the worked cases: the definitions give each what document 01 says. It is computed.
-- Assumes nothing.
use mathlib.Core.Path.{◌≡◌, refl}
use mathlib.Core.List.{map}
use Rattle.numbers.specs.First.{met, first_met, first_of as firstNumber}
use Rattle.lists.specs.Filled.{filled}
use Rattle.euclid.specs.Euclid.{euclid}
use Rattle.overlap.specs.Overlap.{gap_of, clear_by}
use Rattle.model.specs.Columns.{column_of}
use Rattle.model.specs.Rules.{version_tests, version_rule, count_tests, count_rule, head_rule, diagonal_rule, partition_tests, partition_rule, exclusion_tests, exclusion_rule, length_tests, length_rule, member_tests, member_rule, members_rule}
use Rattle.layout.specs.Layout.{chain_at}
use Rattle.layout.specs.Values.{sheet_of, delays_of}
use Rattle.reader.specs.Number.{short, head_number, record_rule, record_number, part_number, parts_number, lead_number, members_number, chain_number, chains_number, end_number, body_number, sheet_number}
use Rattle.judge.specs.Constraints.{c1, c2, c3, total_on, hosted_on, c4, c5, c6, c7, hops, chain_delay, c8}
use Rattle.judge.specs.Verdict.{or_next, verdict}
use Rattle.bits.specs.Field.{field_of, with_bit, put_bit, put_field}
use Rattle.reader.specs.Plan.{plan_number, plan_of, with_placement, with_placements, plan_bytes}
use Rattle.sets.specs.Members.{kept_from}
use Rattle.table.specs.Layout.{slots_bytes}
use Rattle.table.specs.Run.{reached, answers}
use Rattle.table.specs.Sound.{head_number as tableHeadNumber, form_number}
use Rattle.table.specs.Step.{position_number, step_number, unless, stepped}
use Rattle.frames.specs.Frame.{frame_from, starting as startingAt, slots_from}
use Rattle.judge.specs.Places.{fails_from, passes_from}
use Rattle.tries.specs.Placements.{upward, grid}
use Rattle.tries.specs.Tries.{starting, words_from, keep, first_of, up_to, words, is_try, accepted, tries, first, needed, answer, answer_of as answerBy}
use Rattle.sound.specs.Sound.{sound_at, sound}
use Rattle.search.specs.Answer.{answer_of}
use Rattle.builder.specs.Built.{parts_on, room_number, returned, left}
use Rattle.ghozrembu.specs.Judged.{verdict_of, judged_bytes}
use Rattle.ghozrembu.specs.BuiltBytes.{build_number, built_bytes, buffer_built}
use Rattle.ghozrembu.specs.FoundBytes.{refusal_in, found_bytes, buffer_found}
use Rattle.demands.specs.Cases.{Case, cases, given, listed}

pub worked : map given cases ≡ map (λ (c : Case). c.got) cases
unfolding met first_met firstNumber version_tests count_tests partition_tests exclusion_tests length_tests member_tests filled field_of euclid gap_of clear_by column_of version_rule count_rule head_rule diagonal_rule partition_rule exclusion_rule length_rule member_rule members_rule chain_at sheet_of delays_of short head_number record_rule record_number part_number parts_number lead_number members_number chain_number chains_number end_number body_number sheet_number plan_number plan_of fails_from c1 c2 c3 total_on hosted_on c4 c5 c6 c7 hops chain_delay c8 or_next verdict verdict_of judged_bytes with_bit put_bit put_field with_placement with_placements plan_bytes kept_from slots_bytes reached answers tableHeadNumber form_number position_number step_number unless stepped frame_from startingAt slots_from passes_from upward grid starting words_from keep first_of up_to words is_try accepted tries first needed answer answerBy sound_at sound answer_of parts_on room_number returned left build_number built_bytes buffer_built refusal_in found_bytes buffer_found listed
worked = refl
