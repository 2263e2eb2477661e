-- Small job lists, computed from the definitions.
use mathlib.Core.Path.{◌≡◌, refl}
use mathlib.Core.List.{List, [], ◌∷◌, ◌++◌}
use Prim.Native.Nat.{◌-◌}
use lib.ListN.{replicate}
use Rattle.base.specs.Below.{every}
use Rattle.plan.specs.Kinds.{Bytes}
use Rattle.plan.specs.Edition.{most_jobs}
use Rattle.plan.specs.Report.{Report}
use Rattle.plan.specs.Refusal.{buffer_too_short}
use Rattle.plan.specs.Rules.{lo, hi, no_job, name_allowed, is_absent, names_hold, names_differ, grades_hold, bounds_hold}
use Rattle.plan.specs.declared.kinds.Job.{Job}
use Rattle.plan.specs.declared.kinds.JobList.{JobList}
use Rattle.fields.specs.Bytes.{value}
use Rattle.text.specs.Text.{text, digits}
use Rattle.csvtext.specs.Grammar.{line_end, line_feed, quote, plain, quoted, field, begins}
use Rattle.csvtext.specs.Decimals.{are_digits, is_decimal, decimal_from}
use Rattle.csvtext.specs.Items.{exactly, item, name_item, number_item, grade_item}
use Rattle.joblist.specs.Export.{needs_quotes, doubled, field_text, lines_text, list_text, wrote, refused, exported}
use Rattle.joblist.specs.Import.{header, line, one_job, all_lines, job_text, imported}

-- The report of a text.
abbrev report : Bytes → Report
report bytes = (imported bytes).answer

-- Bytes in quotes, none of which is a quote.
abbrev in_quotes : Bytes → Bytes
in_quotes l = (quote ∷ []) ++ l ++ (quote ∷ [])

abbrev reports : List Report
reports =
    report (header ++ text "Mirror-A,L,0,6,5" ++ line_end)
    ∷ report (header ++ text "Mirror-A,L,0,6,5" ++ line_end ++ text "mirror-A,H,1,8,10" ++ line_end)
    ∷ report (header ++ (quote ∷ []) ++ text "a,b" ++ (quote ∷ quote ∷ []) ++ text "cdef" ++ (quote ∷ []) ++ text ",H,1,8,10" ++ line_end)
    ∷ report []
    ∷ report header
    ∷ report (header ++ text "Mirror-A,L,0,6,5")
    ∷ report (header ++ text "Mirror-A,L,00,6,5" ++ line_end)
    ∷ report (header ++ text "Mirror-A,L,0,6," ++ line_end)
    ∷ report (header ++ text "Mirror-,L,0,6,5" ++ line_end)
    ∷ report (header ++ text "Mirror A,L,0,6,5" ++ line_end)
    ∷ report (header ++ text "Mirror-A,HH,0,6,5" ++ line_end)
    ∷ report (header ++ text "Mirror-A,L,0,99999999999999999999999999,5" ++ line_end)
    ∷ report (header ++ text "Mirror-A,L,0,6,5" ++ line_end ++ text "Mirror-A,H,1,8,10" ++ line_end)
    -- A quoted grade and number are taken; CRLF in quotes does not end the line, and no name has it; a header in quotes, LF
    -- alone, a sign, a byte that no field has, and text after a closing quote are refused.
    ∷ report (header ++ text "Mirror-A," ++ in_quotes (text "L") ++ text "," ++ in_quotes (text "0") ++ text ",6,5" ++ line_end)
    ∷ report (header ++ in_quotes (text "Mirr" ++ line_end ++ text "-A") ++ text ",L,0,6,5" ++ line_end)
    ∷ report (in_quotes (text "name") ++ text ",grade,release,size,deadline" ++ line_end ++ text "Mirror-A,L,0,6,5" ++ line_end)
    ∷ report (text "name,grade,release,size,deadline" ++ (line_feed ∷ []))
    ∷ report (header ++ text "Mirror-A,L,0,6,5" ++ (line_feed ∷ []))
    ∷ report (header ++ text "Mirror-A,L,+1,6,5" ++ line_end)
    ∷ report (header ++ text "Mirror-" ++ (0x7F ∷ []) ++ text ",L,0,6,5" ++ line_end)
    ∷ report (header ++ in_quotes (text "Mirror") ++ text "-A,L,0,6,5" ++ line_end)
    ∷ []

cases : reports
    ≡ []
    ∷ []
    ∷ []
    ∷ (24 ∷ 0 ∷ [])
    ∷ (5 ∷ 34 ∷ [])
    ∷ (23 ∷ 34 ∷ [])
    ∷ (23 ∷ 34 ∷ [])
    ∷ (23 ∷ 34 ∷ [])
    ∷ (23 ∷ 34 ∷ [])
    ∷ (6 ∷ 34 ∷ [])
    ∷ (8 ∷ 43 ∷ [])
    ∷ (9 ∷ 45 ∷ [])
    ∷ (7 ∷ 52 ∷ [])
    ∷ []
    ∷ (6 ∷ 34 ∷ [])
    ∷ (24 ∷ 0 ∷ [])
    ∷ (24 ∷ 0 ∷ [])
    ∷ (23 ∷ 34 ∷ [])
    ∷ (23 ∷ 34 ∷ [])
    ∷ (23 ∷ 34 ∷ [])
    ∷ (23 ∷ 34 ∷ [])
    ∷ []
unfolding imported job_text all_lines one_job line grade_item number_item name_item item exactly begins field quoted plain is_decimal are_digits decimal_from value name_allowed is_absent every
cases = refl

-- Two jobs, of which the second has a comma and a quote in its name: `a,b"cdef`.
abbrev first : Job
first =
    record {
      name = record { 0 = 0x4D69_7272_6F72_2D41 };
      grade = lo;
      release = record { 0 = 0 };
      size = record { 0 = 6 };
      deadline = record { 0 = 5 };
    }

abbrev second : Job
second =
    record {
      name = record { 0 = 0x612C_6222_6364_6566 };
      grade = hi;
      release = record { 0 = 1 };
      size = record { 0 = 8 };
      deadline = record { 0 = 10 };
    }

abbrev two_jobs : JobList
two_jobs = record { count = 2; jobs = first ∷ second ∷ replicate (most_jobs - 2) no_job }

-- Their text.
abbrev two_lines : Bytes
two_lines =
    header ++ text "Mirror-A,L,0,6,5" ++ line_end ++ (quote ∷ []) ++ text "a,b" ++ (quote ∷ quote ∷ []) ++ text "cdef" ++ (quote ∷ [])
    ++ text ",H,1,8,10" ++ line_end

-- The import of the text yields the two jobs, and no others.
imported_jobs : imported two_lines ≡ record { answer = []; list = two_jobs }
unfolding imported job_text all_lines one_job line grade_item number_item name_item item exactly begins field quoted plain is_decimal are_digits decimal_from value name_allowed is_absent every
imported_jobs = refl

-- The export of the two jobs writes the text into an output as long as it, and into a longer one, whose last bytes
-- stay; a shorter one is refused.
exported_text : (exported two_jobs (replicate 74 7) ≡ record { answer = wrote 74; out = two_lines })
    × (exported two_jobs (replicate 76 7) ≡ record { answer = wrote 74; out = two_lines ++ (7 ∷ 7 ∷ []) })
    × (exported two_jobs (replicate 73 7) ≡ record { answer = refused buffer_too_short; out = replicate 73 7 })
unfolding exported list_text lines_text field_text doubled needs_quotes digits names_hold names_differ grades_hold bounds_hold name_allowed every
exported_text = (refl, refl, refl)
