-- The replies that show a register (ours).
use Rattle.std.specs.Prelude.{◌≡◌, [], ◌++◌, Option, Some, None, Ok, codes}
use Rattle.vet_base.specs.Gives.{Told, ◌>>=◌}
use Rattle.vet_base.specs.Words.{Name, Text}
use Rattle.vet_demand.specs.WrittenProject.{written_text}
use Rattle.vet_demand.specs.declared.project.NamedProject.{NamedProject}
use Rattle.vet_documents.specs.RegisterFile.{IsFileOf, file_named}
use Rattle.vet_documents.specs.declared.register_file.RegisterFile.{RegisterFile}
use Rattle.vet_graph.specs.Class.{class_word}
use Rattle.vet_graph.specs.Standing.{class_in}
use Rattle.vet_graph.specs.declared.class.Class.{Class}
use Rattle.vet_http.specs.Told.{reply_told}
use Rattle.vet_register.specs.Held.{project_at}
use Rattle.vet_register.specs.State.{State, standing}
use Rattle.vet_reports.specs.Report.{layout_of, report_text}
use Rattle.vet_reports.specs.StandingText.{standing_text}
use Rattle.vet_reports.specs.declared.report.Layout.{Layout}
use Rattle.vet_reports.specs.declared.report.Layout.TheVariants.{Csv, Lines}
use Rattle.vet_reports.specs.declared.report.Report.{Report}
use Rattle.vet_reports.specs.declared.standing_text.Filter.{Filter}
use Rattle.vet_requests.specs.Parameter.{first_parameter, name_told, package_told, second_parameter}
use Rattle.vet_requests.specs.Parameter.{third_parameter, version_told}
use Rattle.vet_requests.specs.Reply.{plain_reply, reply_with, text_reply}
use Rattle.vet_requests.specs.declared.content_type.ContentType.TheVariants as content
use Rattle.vet_requests.specs.declared.reply.Reply.{Reply}
use Rattle.vet_requests.specs.declared.route.Shown.{Shown}
use Rattle.vet_requests.specs.declared.route.Shown.TheVariants as shown
use Rattle.vet_requests.specs.declared.status.Status.TheVariants as status

-- ---- bodies

-- lines for people
abbrev pub lines : Text → Reply
lines text = text_reply status.Ok text

abbrev pub csv : Text → Reply
csv text = reply_with status.Ok content.Csv [] text

abbrev pub toml : Text → Reply
toml text = reply_with status.Ok content.Toml [] text

-- ---- the parts that are shown

-- a report, in its own layout
abbrev pub laid_out : Layout → Text → Reply
laid_out Lines text = lines text
laid_out Csv text = csv text

abbrev pub report_reply : Report → State → Reply
report_reply report s = laid_out (layout_of report) (report_text report s)

-- the pairs of a package
abbrev pub pairs_of : Name → Filter
pairs_of name = record { «package» = Some name; class = None }

-- the pairs of the package that the parameter names
abbrev pub package_standing_told : Text → State → Told Reply
package_standing_told target s =
    package_told (first_parameter target) >>= λ name. Ok (lines (standing_text (pairs_of name) s))

-- the word of a class; `none` for a pair that is not demanded
abbrev pub class_line : Option Class → Text
class_line (Some class) = class_word class ++ codes "\n"
class_line None = codes "none\n"

-- the class of the pair that the parameters name
abbrev pub class_told : Text → State → Told Reply
class_told target s =
    package_told (first_parameter target) >>= λ name.
    version_told (second_parameter target) >>= λ version.
    name_told (third_parameter target) >>= λ criterion.
    Ok (lines (class_line (class_in (standing s)
    (record { «package» = name; version = version; criterion = criterion }))))

-- the dependency table of a project, or 404 if none is held
abbrev pub table_of : Option NamedProject → Reply
table_of (Some it) = csv (written_text it.project)
table_of None = plain_reply status.NotFound

-- the dependency table of the project that the parameter names
abbrev pub table_told : Text → State → Told Reply
table_told target s =
    package_told (first_parameter target) >>= λ name. Ok (table_of (project_at s.held.projects name))

-- a file in any layout, or 404 if no file has the name
abbrev pub IsFile : Option RegisterFile → State → Reply → Type 0
IsFile (Some file) s reply = (text : Text) × (IsFileOf file s text × (reply ≡ toml text))
IsFile None s reply = reply ≡ plain_reply status.NotFound

-- the reply that shows something for a target
abbrev pub IsShown : Shown → Text → State → Reply → Type 0
IsShown (shown.Report report) target s reply = reply ≡ report_reply report s
IsShown shown.StandingOf target s reply = reply ≡ reply_told (package_standing_told target s)
IsShown shown.Class target s reply = reply ≡ reply_told (class_told target s)
IsShown shown.File target s reply = IsFile (file_named (first_parameter target)) s reply
IsShown shown.Project target s reply = reply ≡ reply_told (table_told target s)
