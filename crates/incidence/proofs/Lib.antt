mod ContainsLaws
mod MeetingLaws
mod SelectionLaws
mod DependentsLaws
