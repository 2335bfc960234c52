mod Growing
mod InText
